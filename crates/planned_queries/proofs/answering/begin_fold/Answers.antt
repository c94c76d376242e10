use Rattle.std.proofs.Common.{ℕ, Err, take, sym, ap, subst, rules}
use Rattle.std.proofs.lemmas.Result.{err_from_is_err_and}
use Rattle.cube_model.specs.Admission.{all_rows}
use Rattle.cube_model.specs.declared.fault.Fault.{Fault}
use Rattle.cube_model.specs.declared.fault.Fault.TheVariants.{BadLayout}
use Rattle.cube_query.specs.Groups.{RepresentsRows}
use Rattle.object_store.specs.Store.{content_of}
use Rattle.warehouse_objects.proofs.Folded.{err_fault}
use Rattle.planned_queries.proofs.Cuboids.{of_cuboid}
use Rattle.warehouse_objects.proofs.OneMoreRead.{reads_nothing}
use Rattle.planned_queries.proofs.answering.begin_fold.Goals as goal

pub returns-in_err-done-clause-refused : goal.returns-in_err-done-clause-refused
returns-in_err-done-clause-refused g c =
    let p = err_from_is_err_and c.from_residual-in_err-done.result c.from_residual-in_err-done.ensures.1 in
    rw (p.1, p.2) (λ is k w represents rooted same.
    c.in_err-done.ensures.refused (ap (λ (f : Fault). Err f) (err_fault c.in_err-done.field-0.0 BadLayout is)) k w
    represents rooted same
    (of_cuboid (content_of g.D.Sectors c.args.store.now) w c.args.as_of c.args.query.now c.in_ok-plan.plan represents
    (c.in_ok-plan.ensures.plan w rooted)))

pub returns-clause-begun : goal.returns-clause-begun
returns-clause-begun g c k w represents rooted same =
    let plan = c.in_ok-plan.ensures.plan w rooted in
    let own = of_cuboid (content_of g.D.Sectors c.args.store.now) w c.args.as_of c.args.query.now c.in_ok-plan.plan
    represents plan in (
      c.in_ok-plan.plan,
      plan,
      c.in_ok-done.ensures.from,
      subst (λ (n : ℕ). RepresentsRows c.args.dims.now c.begin_by_plan.new.fold (all_rows (take n w.batches)))
          (sym c.in_ok-done.ensures.from) (c.in_ok-done.ensures.ok k w represents rooted same own),
    )

pub returns-in_err-plan-clause-reads : goal.returns-in_err-plan-clause-reads
returns-in_err-plan-clause-reads g c =
    reads_nothing g.D.Sectors g.met.D.Sectors.only_now c.args.store.now c.requires.fine _ (λ is. search rules)
