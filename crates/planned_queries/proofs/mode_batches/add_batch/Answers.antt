use Rattle.std.proofs.Common.{◌+◌, ℕ, List, Err, length, arith, refl, sym, ◌∙◌, ap, subst}
use Rattle.std.proofs.lemmas.Result.{IfErr-weaker, err_from_is_err_and, on_ok_weaker}
use Rattle.cube_model.specs.declared.fault.Fault.{Fault}
use Rattle.cube_model.specs.declared.fault.Fault.TheVariants.{BadLayout, Device}
use Rattle.cube_model.specs.declared.rows.LineOrder.{LineOrder}
use Rattle.column_segment.specs.Projected.{HoldsNoneOf}
use Rattle.mode_folds.specs.States.{CanTakeByModes}
use Rattle.object_store.specs.Store.{content_of}
use Rattle.warehouse_objects.proofs.Batches.{some_one}
use Rattle.warehouse_objects.proofs.Folded.{err_fault, found_at, none_there, of_counts, of_fault}
use Rattle.warehouse_objects.proofs.OneMoreRead.{has_read}
use Rattle.planned_queries.proofs.Faults.{no_device}
use Rattle.planned_queries.proofs.ModeBatchesLemmas.{missing, refused}
use Rattle.planned_queries.proofs.mode_batches.add_batch.Goals as goal

pub returns-in_err-bytes-clause-refused : goal.returns-in_err-bytes-clause-refused
returns-in_err-bytes-clause-refused g c =
    let p = err_from_is_err_and c.from_residual.result c.from_residual.ensures.1 in
    rw (p.1, p.2) (λ is k w represents batch here many can.
    let before : ℕ = c.args.before in
    none_there (content_of g.D.Sectors c.args.store.now) w represents before (before + 1) c.segment_id.result refl
    c.segment_id.ensures (omega (arith, c.requires.few)) batch here
    (missing _ (before + 1) (length batch)
    (c.in_err-bytes.ensures.missing (ap (λ (f : Fault). Err f) (err_fault c.in_err-bytes.field-0.0 BadLayout is)) k)))

pub returns-in_err-segment-clause-refused : goal.returns-in_err-segment-clause-refused
returns-in_err-segment-clause-refused g c =
    let p = err_from_is_err_and c.from_residual-in_err-segment.result c.from_residual-in_err-segment.ensures.1 in
    rw (p.1, p.2) (λ is k w represents batch here many can.
    let before : ℕ = c.args.before in
    none_there (content_of g.D.Sectors c.args.store.now) w represents before (before + 1) c.segment_id.result refl
    c.segment_id.ensures (omega (arith, c.requires.few)) batch here
    (subst (HoldsNoneOf _ (before + 1)) many
    (refused _ c.in_ok-bytes.bytes.items (before + 1) c.args.rows c.in_err-segment.field-0.0
    (c.in_ok-bytes.ensures.found k) (err_fault c.in_err-segment.field-0.0 BadLayout is)
    c.in_err-segment.ensures.refused)))

pub returns-clause-ok : goal.returns-clause-ok
returns-clause-ok g c =
    on_ok_weaker c.count_batch.result (λ takes k w represents. (
      c.in_ok-segment.segment.rows,
      found_at (content_of g.D.Sectors c.args.store.now) w represents c.args.before (c.args.before + 1)
          c.segment_id.result refl c.segment_id.ensures (omega (arith, c.requires.few)) c.in_ok-bytes.bytes.items
          c.in_ok-segment.segment.rows (c.in_ok-bytes.ensures.found k) c.in_ok-segment.ensures.ok,
      takes,
    )) c.count_batch.ensures.ok

pub returns-clause-query : goal.returns-clause-query
returns-clause-query g c = on_ok_weaker c.count_batch.result (λ takes. takes.query) c.count_batch.ensures.ok

pub returns-clause-refused : goal.returns-clause-refused
returns-clause-refused g c = λ is k w represents batch here many can.
    let rows : List LineOrder = c.in_ok-segment.segment.rows in
    let found = found_at (content_of g.D.Sectors c.args.store.now) w represents c.args.before (c.args.before + 1)
    c.segment_id.result refl c.segment_id.ensures (omega (arith, c.requires.few)) c.in_ok-bytes.bytes.items
    rows (c.in_ok-bytes.ensures.found k) c.in_ok-segment.ensures.ok in
    c.count_batch.ensures.refused is
    (subst (CanTakeByModes c.args.dims.now c.args.fold.now) (some_one batch rows (sym here ∙ found)) can)

pub returns-clause-reads : goal.returns-clause-reads
returns-clause-reads g c =
    has_read g.D.Sectors c.args.store.now c.read_object.new.store c.count_batch.result
    (λ is. no_device Device (of_fault _ c.count_batch.result Device c.count_batch.ensures.only is) refl)
    (c.in_ok-bytes.ensures.reads.stays (λ is. cc)) c.in_ok-bytes.ensures.reads.leaves

pub returns-clause-causes : goal.returns-clause-causes
returns-clause-causes g c = IfErr-weaker c.count_batch.result _ _ of_counts c.count_batch.ensures.only
