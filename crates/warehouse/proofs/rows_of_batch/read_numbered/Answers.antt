use Rattle.warehouse_objects.proofs.OneMoreRead.{reads_nothing}
use Rattle.std.proofs.Common.{rules}
use Rattle.warehouse.proofs.rows_of_batch.read_numbered.Goals as goal

pub returns-in-None-clause-reads : goal.returns-in-None-clause-reads
returns-in-None-clause-reads g c =
    reads_nothing g.D.Sectors g.met.D.Sectors.only_now c.args.store.now c.requires.fine _ (λ is. search rules)
