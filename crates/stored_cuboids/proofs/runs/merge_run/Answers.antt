use Rattle.std.proofs.Common.{Err, ◌≡◌, ◌∙◌, ap, subst, sym}
use Rattle.std.proofs.lemmas.Result.{err_from_is_err_and}
use Rattle.cube_model.specs.declared.fault.Fault.{Fault}
use Rattle.cube_model.specs.declared.fault.Fault.TheVariants.{BadLayout}
use Rattle.lattice.specs.declared.view.View.{View}
use Rattle.object_store.specs.Store.{content_of}
use Rattle.warehouse_objects.proofs.Folded.{bad_one, err_fault, of_fault}
use Rattle.stored_cuboids.specs.Steps.{IsNextRun}
use Rattle.stored_cuboids.proofs.StoredRuns.{taken}
use Rattle.stored_cuboids.proofs.runs.merge_run.Goals as goal

pub returns-in_err-read-clause-refused : goal.returns-in_err-read-clause-refused
returns-in_err-read-clause-refused g c =
    let p = err_from_is_err_and c.from_residual.result c.from_residual.ensures.1 in
    rw (p.1, p.2) (λ is k new next takes.
    let content = content_of g.D.Sectors c.args.store.now in
    c.in_err-read.ensures.refused (ap (λ (f : Fault). Err f) (err_fault c.in_err-read.field-0.0 BadLayout is)) k
    takes.cells next
    (subst (λ (view : View). IsNextRun content c.args.id view c.args.at takes.cells next) (sym c.view.ensures.value)
    takes.read))

pub returns-in_err-merge_in-clause-refused : goal.returns-in_err-merge_in-clause-refused
returns-in_err-merge_in-clause-refused g c =
    let p = err_from_is_err_and c.from_residual-in_err-merge_in.result c.from_residual-in_err-merge_in.ensures.1 in
    rw (p.1, p.2) (λ is k new next takes.
    let content = content_of g.D.Sectors c.args.store.now in
    let read = subst (λ (view : View). IsNextRun content c.args.id view c.args.at c.in_ok-read.read c.in_ok-read.next)
    c.view.ensures.value (c.in_ok-read.ensures.ok k) in
    let known = taken content c.args.id c.args.cells.now new c.args.at next c.in_ok-read.next c.in_ok-read.read read
    takes in
    let bad : c.in_err-merge_in.field-0.0 ≡ BadLayout = err_fault c.in_err-merge_in.field-0.0 BadLayout is in
    bad_one ⊥ _
    (of_fault _ c.merge_in.result BadLayout c.merge_in.ensures.refused
    (c.in_err-merge_in.was ∙ ap (λ (f : Fault). Err f) bad)) (λ none. none new known.0 known.1))
