use Rattle.std.proofs.Common.{Err, sym, ap, subst}
use Rattle.std.proofs.lemmas.Result.{err_from_is_err_and}
use Rattle.cube_model.specs.declared.fault.Fault.{Fault}
use Rattle.cube_model.specs.declared.fault.Fault.TheVariants.{BadLayout}
use Rattle.object_store.specs.Content.{Content}
use Rattle.object_store.specs.Store.{IsStill}
use Rattle.warehouse_objects.specs.Represents.{Represents}
use Rattle.warehouse_objects.proofs.Folded.{err_fault}
use Rattle.warehouse_objects.proofs.OneMoreRead.{has_read, same_error, then_reads}
use Rattle.planned_queries.proofs.answering.fold_by_plan.Goals as goal

pub returns-in_err-fold_batches-clause-refused : goal.returns-in_err-fold_batches-clause-refused
returns-in_err-fold_batches-clause-refused g c =
    let p = err_from_is_err_and c.from_residual-in_err-fold_batches.result
    c.from_residual-in_err-fold_batches.ensures.1 in
    rw (p.1, p.2) (λ is k w represents rooted same.
    let still : IsStill g.D.Sectors c.args.store.now c.begin_fold.new.store =
    c.in_ok-from.ensures.reads.stays (λ is. cc) in
    let word = c.in_err-fold_batches.ensures.reads.leaves.word k in
    let begun = c.in_ok-from.ensures.begun word w represents rooted same in
    c.in_err-fold_batches.ensures.refused
    (ap (λ (f : Fault). Err f) (err_fault c.in_err-fold_batches.field-0.0 BadLayout is)) k w
    (subst (λ (x : Content). Represents x w) (sym (still.content word)) represents) rooted same.rows begun.3)

pub returns-in_err-fold_batches-clause-reads : goal.returns-in_err-fold_batches-clause-reads
returns-in_err-fold_batches-clause-reads g c =
    let p = err_from_is_err_and c.from_residual-in_err-fold_batches.result
    c.from_residual-in_err-fold_batches.ensures.1 in
    rw (p.1, p.2) (same_error g.D.Sectors c.args.store.now c.fold_batches.new.store _
    (then_reads g.D.Sectors c.args.store.now c.begin_fold.new.store c.fold_batches.new.store
    (c.in_ok-from.ensures.reads.stays (λ is. cc)) _ c.requires.fine c.in_ok-from.ensures.reads.leaves
    c.in_err-fold_batches.ensures.reads))

pub returns-clause-ok : goal.returns-clause-ok
returns-clause-ok g c k w represents rooted same =
    let still : IsStill g.D.Sectors c.args.store.now c.begin_fold.new.store =
    c.in_ok-from.ensures.reads.stays (λ is. cc) in
    let word = c.in_ok-fold_batches.ensures.reads.leaves.word k in
    let begun = c.in_ok-from.ensures.begun word w represents rooted same in
    c.in_ok-fold_batches.ensures.ok k w (subst (λ (x : Content). Represents x w) (sym (still.content word)) represents)
    begun.3

pub returns-clause-reads : goal.returns-clause-reads
returns-clause-reads g c =
    then_reads g.D.Sectors c.args.store.now c.begin_fold.new.store c.fold_batches.new.store
    (c.in_ok-from.ensures.reads.stays (λ is. cc)) _ c.requires.fine c.in_ok-from.ensures.reads.leaves
    (has_read g.D.Sectors c.begin_fold.new.store c.fold_batches.new.store _ (λ is. cc)
    (c.in_ok-fold_batches.ensures.reads.stays (λ is. cc)) c.in_ok-fold_batches.ensures.reads.leaves)
