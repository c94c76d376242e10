use Rattle.std.proofs.Common.{◌≡◌, ◌+◌, ◌*◌, Err, List, ℕ, ap, drop, subst, sym}
use Rattle.std.specs.Option.{IsSomeAnd}
use Rattle.std.proofs.lemmas.Result.{IfOk-weaker, err_from_is_err_and}
use Rattle.cube_model.specs.declared.fault.Fault.TheVariants.{BadLayout}
use Rattle.column_segment.specs.Projected.{HasColumns, HoldsNoneOf}
use Rattle.object_store.specs.Content.{bytes_of}
use Rattle.object_store.specs.Store.{content_of}
use Rattle.warehouse_objects.proofs.Folded.{bad_one, of_fault}
use Rattle.warehouse_root.specs.Objects.{segment_id}
use Rattle.stored_rows.specs.Passing.{LeadsToLast}
use Rattle.stored_rows.specs.TextColumns.{SpellLast}
use Rattle.stored_rows.proofs.TextPartLemmas.{holds_modes, holds_none}
use Rattle.stored_rows.proofs.text_part.read_mode_column.Goals as goal

pub returns-in_err-bytes-clause-refused : goal.returns-in_err-bytes-clause-refused
returns-in_err-bytes-clause-refused g c =
    let p = err_from_is_err_and c.from_residual.result c.from_residual.ensures.1 in
    rw (p.1, p.2) (λ bad k.
    let fault : c.in_err-bytes.field-0.0 ≡ BadLayout = cc bad in
    subst (λ (id : ℕ). HoldsNoneOf (bytes_of (content_of g.D.Sectors c.args.store.now) id) c.args.number c.args.count)
    c.segment_id.ensures (c.in_err-bytes.ensures.refused (ap (λ fault. Err fault) fault) k))

pub returns-clause-modes : goal.returns-clause-modes
returns-clause-modes g c =
    IfOk-weaker c.decode.result _ _ (λ modes own k.
    holds_modes (content_of g.D.Sectors c.args.store.now) (segment_id c.args.number) c.args.number c.args.count
    c.in_ok-bytes.bytes.items
    (subst (λ (id : ℕ). IsSomeAnd (bytes_of (content_of g.D.Sectors c.args.store.now) id)
    (λ text. HasColumns text c.args.number c.args.count
    × LeadsToLast c.args.count (drop (12 + 63 * c.args.count) text) c.in_ok-bytes.bytes.items)) c.segment_id.ensures
    (c.in_ok-bytes.ensures.found k)) modes
    (λ others are. own others
    (subst (λ (bytes : List ℕ). SpellLast c.args.count bytes others) (sym c.deref.ensures.value) are)))
    c.decode.ensures.ok

pub returns-clause-refused : goal.returns-clause-refused
returns-clause-refused g c is k =
    bad_one _ _ (of_fault _ c.decode.result BadLayout c.decode.ensures.refused is) (λ none.
    holds_none (content_of g.D.Sectors c.args.store.now) (segment_id c.args.number) c.args.number c.args.count
    c.in_ok-bytes.bytes.items
    (subst (λ (id : ℕ). IsSomeAnd (bytes_of (content_of g.D.Sectors c.args.store.now) id)
    (λ text. HasColumns text c.args.number c.args.count
    × LeadsToLast c.args.count (drop (12 + 63 * c.args.count) text) c.in_ok-bytes.bytes.items)) c.segment_id.ensures
    (c.in_ok-bytes.ensures.found k))
    (λ others are. none others
    (subst (λ (bytes : List ℕ). SpellLast c.args.count bytes others) (sym c.deref.ensures.value)
    are)))
