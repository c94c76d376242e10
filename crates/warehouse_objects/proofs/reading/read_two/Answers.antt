use Rattle.std.proofs.lemmas.Result.{err_from_is_err_and}
use Rattle.warehouse_objects.proofs.OneMoreRead.{has_read, same_error, then_reads}
use Rattle.warehouse_objects.proofs.reading.read_two.Goals as goal

pub returns-clause-reads : goal.returns-clause-reads
returns-clause-reads g c =
    then_reads g.D.Sectors c.args.store.now c.read_object.new.store c.read_object-2.new.store
    (c.in_ok-one.ensures.reads.stays (λ is. cc)) _ c.requires.fine c.read_object.ensures.reads.leaves
    (has_read g.D.Sectors c.read_object.new.store c.read_object-2.new.store _ (λ is. cc)
    (c.in_ok-other.ensures.reads.stays (λ is. cc)) c.read_object-2.ensures.reads.leaves)

pub returns-in_err-other-clause-reads : goal.returns-in_err-other-clause-reads
returns-in_err-other-clause-reads g c =
    let p = err_from_is_err_and c.from_residual-in_err-other.result c.from_residual-in_err-other.ensures.1 in
    rw (p.1, p.2) (same_error g.D.Sectors c.args.store.now c.read_object-2.new.store _
    (then_reads g.D.Sectors c.args.store.now c.read_object.new.store c.read_object-2.new.store
    (c.in_ok-one.ensures.reads.stays (λ is. cc)) _ c.requires.fine c.read_object.ensures.reads.leaves
    c.in_err-other.ensures.reads))
