use Rattle.std.proofs.Common.{◌+◌, List, Err, arith, refl, sym, ap, subst}
use Rattle.std.proofs.lemmas.Result.{IfErr-weaker, err_from_is_err_and, on_ok_weaker}
use Rattle.column_segment.specs.declared.columns.FactColumn.{FactColumn}
use Rattle.column_segment.specs.Projected.{AgreeOn, HoldsNoneOf}
use Rattle.cube_model.specs.declared.fault.Fault.{Fault}
use Rattle.cube_model.specs.declared.fault.Fault.TheVariants.{BadLayout}
use Rattle.cube_model.specs.declared.rows.LineOrder.{LineOrder}
use Rattle.cube_query.specs.Asked.{asked_columns}
use Rattle.object_store.specs.Store.{content_of}
use Rattle.warehouse_objects.proofs.Folded.{batch_agrees, can_take_there, err_fault, none_there, of_counts}
use Rattle.warehouse_objects.proofs.folding.add_batch.Goals as goal

pub returns-clause-ok : goal.returns-clause-ok
returns-clause-ok g c =
    on_ok_weaker c.add_columns.result (λ takes k w represents.
    let found = batch_agrees (content_of g.D.Sectors c.args.store.now) w represents c.args.before (c.args.before + 1)
    c.segment_id.result refl c.segment_id.ensures (omega (arith, c.requires.few))
    c.args.columns.now c.read.new.self (c.in_ok-read.ensures.ok k) in
    let agree = subst (λ (rows : List LineOrder). AgreeOn (asked_columns c.args.fold.now.query) rows found.0)
    (sym c.columns.ensures)
    (subst (λ (columns : List FactColumn). AgreeOn columns c.read.new.self found.0) c.requires.asked found.2) in
    (found.0, found.1, takes found.0 agree)) c.add_columns.ensures.ok

pub returns-clause-refused : goal.returns-clause-refused
returns-clause-refused g c = λ is k w represents batch here many keys so_far.
    let before = c.args.before in
    let content = content_of g.D.Sectors c.args.store.now in
    let found = batch_agrees content w represents before (before + 1) c.segment_id.result refl c.segment_id.ensures
    (omega (arith, c.requires.few)) c.args.columns.now c.read.new.self (c.in_ok-read.ensures.ok k) in
    let agree = subst (λ (rows : List LineOrder). AgreeOn (asked_columns c.args.fold.now.query) rows found.0)
    (sym c.columns.ensures)
    (subst (λ (columns : List FactColumn). AgreeOn columns c.read.new.self found.0) c.requires.asked found.2) in
    c.add_columns.ensures.refused is found.0 agree
    (can_take_there content w represents c.args.dims.now c.args.fold.now before found.0 found.1 keys so_far)

pub returns-in_err-read-clause-refused : goal.returns-in_err-read-clause-refused
returns-in_err-read-clause-refused g c =
    let p = err_from_is_err_and c.from_residual.result c.from_residual.ensures.1 in
    rw (p.1, p.2) (λ is k w represents batch here many keys so_far.
    let before = c.args.before in
    none_there (content_of g.D.Sectors c.args.store.now) w represents before (before + 1) c.segment_id.result refl
    c.segment_id.ensures (omega (arith, c.requires.few)) batch here
    (subst (HoldsNoneOf _ (before + 1)) many
    (c.in_err-read.ensures.refused (ap (λ (f : Fault). Err f) (err_fault c.in_err-read.field-0.0 BadLayout is)) k)))

pub returns-clause-causes : goal.returns-clause-causes
returns-clause-causes g c = IfErr-weaker c.add_columns.result _ _ of_counts c.add_columns.ensures.only
