use Rattle.std.proofs.Common.{◌≤◌, ◌∙◌, length, take, sym, ap, subst, arith, rules}
use Rattle.std.proofs.lemmas.List.{length-map}
use Rattle.std.proofs.lemmas.Result.{IfOk-weaker}
use Rattle.cube_model.specs.Admission.{all_rows}
use Rattle.cube_model.specs.Answers.{answer}
use Rattle.cube_model.specs.declared.query.Query.{Query}
use Rattle.cube_model.specs.declared.rows.DimRows.{DimRows}
use Rattle.cube_query.specs.Groups.{Begins, RepresentsRows}
use Rattle.group_tallies.specs.Limits.{AreFoldable}
use Rattle.warehouse_objects.proofs.CallerLemmas.{foldable}
use Rattle.planned_queries.proofs.Cuboids.{members_in}
use Rattle.warehouse_objects.proofs.OneMoreRead.{reads_nothing}
use Rattle.planned_queries.proofs.answering.groups_by_plan.Goals as goal

pub fold_by_plan-requires-clause-begins : goal.fold_by_plan-requires-clause-begins
fold_by_plan-requires-clause-begins g c =
    subst (λ (q : Query). Begins c.deref-rows.result.now q c.in_ok-fold.fold) (sym c.get-query.ensures.query)
    c.in_ok-fold.ensures

pub returns-clause-answer : goal.returns-clause-answer
returns-clause-answer g c =
    IfOk-weaker c.of.result _ _
    (λ found is k w represents rooted same.
    let dims = c.args.dims.now.value in
    let fold = c.fold_by_plan.new.fold in
    let rows = all_rows (take c.args.as_of w.batches) in
    let folded : RepresentsRows dims fold rows =
    subst (λ (d : DimRows). RepresentsRows d fold rows) c.deref-rows.ensures
    (c.in_ok-fold_by_plan.ensures.ok k w represents rooted
    (members_in w _ _ c.args.modes.now c.deref-rows.ensures same)) in
    is rows folded ∙ ap (λ (q : Query). answer q dims rows)
    (c.in_ok-fold_by_plan.ensures.query ∙ c.get-query.ensures.query))
    c.of.ensures.answer

pub returns-clause-refused : goal.returns-clause-refused
returns-clause-refused g c = λ is k w represents rooted same.
    let dims = c.args.dims.now.value in
    let fold = c.fold_by_plan.new.fold in
    let rows = all_rows (take c.args.as_of w.batches) in
    let folded : RepresentsRows dims fold rows =
    subst (λ (d : DimRows). RepresentsRows d fold rows) c.deref-rows.ensures
    (c.in_ok-fold_by_plan.ensures.ok k w represents rooted
    (members_in w _ _ c.args.modes.now c.deref-rows.ensures same)) in
    let within : c.args.as_of ≤ length w.batches =
    omega (arith, c.requires.few, ap (λ r. length r.batches) rooted, length-map w.batches length) in
    let all : AreFoldable dims rows =
    subst (λ (d : DimRows). AreFoldable d rows) (sym same.rows)
    (foldable w.rows w.batches represents.batches c.args.as_of within) in
    c.of.ensures.refused is (rows, (folded, all))

pub returns-in_err-fold-clause-reads : goal.returns-in_err-fold-clause-reads
returns-in_err-fold-clause-reads g c =
    reads_nothing g.D.Sectors g.met.D.Sectors.only_now c.args.store.now c.requires.fine _ (λ is. search rules)
