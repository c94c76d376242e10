use Rattle.std.proofs.Common.{◌+◌, ◌<◌, Err, take, sym, ap, subst, arith, rules}
use Rattle.std.proofs.lemmas.Result.{err_from_is_err_and}
use Rattle.cube_model.specs.Admission.{all_rows}
use Rattle.cube_model.specs.declared.fault.Fault.{Fault}
use Rattle.cube_model.specs.declared.fault.Fault.TheVariants.{BadLayout}
use Rattle.cube_model.specs.declared.rows.DimRows.{DimRows}
use Rattle.cube_query.specs.Groups.{RepresentsRows}
use Rattle.warehouse_objects.proofs.Folded.{err_fault}
use Rattle.planned_queries.specs.Stepping.{IsRunning, RunningState}
use Rattle.planned_queries.proofs.SteppingLemmas.{can_finish, folds_first, next_foldable, next_is_there, next_step}
use Rattle.warehouse_objects.proofs.OneMoreRead.{reads_nothing}
use Rattle.planned_queries.proofs.stepping.Running.advance.Goals as goal

pub returns-in_err-found-clause-refused : goal.returns-in_err-found-clause-refused
returns-in_err-found-clause-refused g c =
    let p = err_from_is_err_and c.from_residual.result c.from_residual.ensures.1 in
    rw (p.1, p.2) (λ is k w represents rooted s extends running.
    let inside = c.self.inside in
    let state : RunningState =
    record { rows = inside.dims.value; fold = inside.fold; done = inside.done; as_of = inside.as_of } in
    let own : IsRunning state s = subst (λ (x : RunningState). IsRunning x s) (sym c.self.view_is) running in
    c.in_err-found.ensures.refused (ap (λ (f : Fault). Err f) (err_fault c.in_err-found.field-0.0 BadLayout is))
    (can_finish state w s extends own c.deref.result.now c.deref.ensures))

pub returns-in_err-fold_batch-clause-refused : goal.returns-in_err-fold_batch-clause-refused
returns-in_err-fold_batch-clause-refused g c =
    let p = err_from_is_err_and c.from_residual-in_err-fold_batch.result c.from_residual-in_err-fold_batch.ensures.1 in
    rw (p.1, p.2) (λ is k w represents rooted s extends running.
    let inside = c.self.inside in
    let state : RunningState =
    record { rows = inside.dims.value; fold = inside.fold; done = inside.done; as_of = inside.as_of } in
    let own : IsRunning state s = subst (λ (x : RunningState). IsRunning x s) (sym c.self.view_is) running in
    let lt : inside.done < inside.as_of = omega (arith, c.if-self.false) in
    c.in_err-fold_batch.ensures.refused
    (ap (λ (f : Fault). Err f) (err_fault c.in_err-fold_batch.field-0.0 BadLayout is)) k w represents rooted
    (next_is_there state w s extends own lt)
    (next_foldable state w s extends own c.deref-2.result.now c.deref-2.ensures lt)
    (subst (λ (d : DimRows). RepresentsRows d inside.fold (all_rows (take inside.done w.batches)))
    (sym c.deref-2.ensures) (folds_first state w s extends own)))

pub returns-clause-steps : goal.returns-clause-steps
returns-clause-steps g c k w represents rooted s extends running =
    let inside = c.self.inside in
    let state : RunningState =
    record { rows = inside.dims.value; fold = inside.fold; done = inside.done; as_of = inside.as_of } in
    let own : IsRunning state s = subst (λ (x : RunningState). IsRunning x s) (sym c.self.view_is) running in
    let lt : inside.done < inside.as_of = omega (arith, c.if-self.false) in
    let begun = subst (λ (d : DimRows). RepresentsRows d inside.fold (all_rows (take inside.done w.batches)))
    (sym c.deref-2.ensures) (folds_first state w s extends own) in
    next_step state w s extends own c.fold_batch.new.fold lt c.in_ok-fold_batch.ensures.query
    (subst (λ (d : DimRows). RepresentsRows d c.fold_batch.new.fold (all_rows (take (inside.done + 1) w.batches)))
    c.deref-2.ensures (c.in_ok-fold_batch.ensures.ok k w represents begun))

pub returns-in_err-found-clause-reads : goal.returns-in_err-found-clause-reads
returns-in_err-found-clause-reads g c =
    reads_nothing g.D.Sectors g.met.D.Sectors.only_now c.args.store.now c.requires.fine _ (λ is. search rules)

pub returns-then-self-clause-reads : goal.returns-then-self-clause-reads
returns-then-self-clause-reads g c =
    reads_nothing g.D.Sectors g.met.D.Sectors.only_now c.args.store.now c.requires.fine _ (λ is. search rules)
