use Rattle.std.proofs.Common.{Err, ◌∙◌, ◌≤◌, length, take, sym, ap, subst, arith, rules}
use Rattle.std.proofs.lemmas.List.{length-map}
use Rattle.std.proofs.lemmas.Result.{err_from_is_err_and}
use Rattle.cube_model.specs.Admission.{all_rows}
use Rattle.cube_model.specs.declared.fault.Fault.{Fault}
use Rattle.cube_model.specs.declared.fault.Fault.TheVariants.{BadLayout, Device}
use Rattle.cube_model.specs.declared.rows.DimRows.{DimRows}
use Rattle.mode_folds.specs.Answered.{IsAnsweredOver, answered_over}
use Rattle.mode_folds.specs.States.{BeginsByModes, RepresentsModeRows}
use Rattle.mode_queries.specs.Answers.{moded_answer}
use Rattle.mode_queries.specs.declared.query.ModeQuery.{ModeQuery}
use Rattle.object_store.specs.Store.{content_of}
use Rattle.warehouse_objects.proofs.Folded.{err_fault, of_counts}
use Rattle.warehouse_objects.proofs.OneMoreRead.{has_read, reads_nothing}
use Rattle.planned_queries.proofs.Cuboids.{members_in}
use Rattle.planned_queries.proofs.Faults.{no_device}
use Rattle.planned_queries.proofs.Folding.{foldable_first}
use Rattle.planned_queries.proofs.mode_answering.answer_by_plan.Goals as goal

pub fold_by_plan-requires-clause-begins : goal.fold_by_plan-requires-clause-begins
fold_by_plan-requires-clause-begins g c =
    subst (λ (q : ModeQuery). BeginsByModes c.deref-rows.result.now q c.in_ok-fold.fold)
    (c.into_ref.ensures ∙ sym c.get-query.ensures.query) c.in_ok-fold.ensures.ok

pub of-requires : goal.of-requires
of-requires g c =
    subst (λ (d : DimRows). IsAnsweredOver d c.in_ok-answered.answered)
    (c.deref-rows.ensures ∙ sym c.in_ok-dims.ensures.cases) c.in_ok-answered.ensures.over

pub returns-in_err-answered-clause-refused : goal.returns-in_err-answered-clause-refused
returns-in_err-answered-clause-refused g c =
    let p = err_from_is_err_and c.from_residual-in_err-answered.result
    c.from_residual-in_err-answered.ensures.1 in
    rw (p.1, p.2) (λ is k w represents rooted same.
    let rows = all_rows (take c.args.as_of w.batches) in
    let within : c.args.as_of ≤ length w.batches =
    omega (arith, c.requires.few, ap (λ r. length r.batches) rooted, length-map w.batches length) in
    c.in_err-answered.ensures.refused
    (ap (λ (f : Fault). Err f) (err_fault c.in_err-answered.field-0.0 BadLayout is)) (
      rows,
      (
        c.in_ok-fold_by_plan.ensures.ok k w represents rooted
            (members_in w _ _ c.args.modes.now c.deref-rows.ensures same),
        foldable_first (content_of g.D.Sectors c.args.store.now) w represents c.deref-rows.result.now c.args.as_of
            (c.deref-rows.ensures ∙ same.rows) within,
      ),
    ))

pub returns-in_err-answered-clause-reads : goal.returns-in_err-answered-clause-reads
returns-in_err-answered-clause-reads g c =
    let p = err_from_is_err_and c.from_residual-in_err-answered.result
    c.from_residual-in_err-answered.ensures.1 in
    let fault = c.in_err-answered.field-0.0 in
    rw (p.1, p.2) (has_read g.D.Sectors c.args.store.now c.fold_by_plan.new.store _
    (λ is. no_device fault c.in_err-answered.ensures.only (err_fault fault Device is))
    (c.in_ok-fold_by_plan.ensures.reads.stays (λ is. cc)) c.in_ok-fold_by_plan.ensures.reads.leaves)

pub returns-in_err-answered-clause-causes : goal.returns-in_err-answered-clause-causes
returns-in_err-answered-clause-causes g c =
    let p = err_from_is_err_and c.from_residual-in_err-answered.result
    c.from_residual-in_err-answered.ensures.1 in
    rw (p.1, p.2) (of_counts c.in_err-answered.field-0.0 c.in_err-answered.ensures.only)

pub returns-clause-answer : goal.returns-clause-answer
returns-clause-answer g c k w represents rooted same =
    let asked = c.get-query.result.now in
    let dims = c.deref-rows.result.now in
    let answered = c.in_ok-answered.answered in
    let rows = all_rows (take c.args.as_of w.batches) in
    let folded : RepresentsModeRows dims c.fold_by_plan.new.fold rows =
    c.in_ok-fold_by_plan.ensures.ok k w represents rooted
    (members_in w _ _ c.args.modes.now c.deref-rows.ensures same) in
    c.of.ensures ∙ ap (λ (d : DimRows). answered_over d answered)
    (c.in_ok-dims.ensures.cases ∙ sym c.deref-rows.ensures)
    ∙ c.in_ok-answered.ensures.answer rows folded
    ∙ ap (λ (q : ModeQuery). moded_answer q dims rows) c.in_ok-fold_by_plan.ensures.query
    ∙ ap (λ (d : DimRows). moded_answer asked d rows) c.deref-rows.ensures
    ∙ ap (λ (q : ModeQuery). moded_answer q c.args.dims.now.value rows) c.get-query.ensures.query

pub returns-in_err-fold-clause-reads : goal.returns-in_err-fold-clause-reads
returns-in_err-fold-clause-reads g c =
    reads_nothing g.D.Sectors g.met.D.Sectors.only_now c.args.store.now c.requires.fine _ (λ is. search rules)
