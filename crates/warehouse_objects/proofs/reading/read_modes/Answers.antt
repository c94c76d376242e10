use Rattle.warehouse_objects.proofs.OneMoreRead.{reads_nothing}
use Rattle.warehouse_objects.proofs.reading.read_modes.Goals as goal

pub returns-in-First-clause-reads : goal.returns-in-First-clause-reads
returns-in-First-clause-reads g c =
    reads_nothing g.D.Sectors g.met.D.Sectors.only_now c.args.store.now c.requires.fine _ (λ is. absurd cc)
