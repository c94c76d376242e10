use Rattle.std.proofs.Common.{[], ◌∷◌}
use Rattle.file_device.proofs.Runs.{stays_if_run_read}
use Rattle.file_device.proofs.disk.FileDiskSectors.read.Goals as goal

pub returns-clause-stays : goal.returns-clause-stays
returns-clause-stays g c word =
    stays_if_run_read c.args.self.now.count g.S.Start.reads g.S.Start.may_hold c.read_sector-outcome.result c.args.i
    (c.read_sector-outcome.new.to ∷ []) _ _ c.read_sector-outcome.ensures
