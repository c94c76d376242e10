use Rattle.std.proofs.Common.{is_ok}
use Rattle.file_device.proofs.Written.{one_noted}
use Rattle.file_device.proofs.disk.FileDiskSectors.write.Goals as goal

pub returns-clause-writes : goal.returns-clause-writes
returns-clause-writes g c word =
    one_noted c.args.self.now.count g.S.Start.reads g.S.Start.may_hold c.args.i c.args.from.now
    (is_ok c.write_sector-outcome.result) _ _ c.write_sector-outcome.ensures
