use Rattle.std.proofs.Common.{is_ok}
use Rattle.sector_device.specs.EventRuns.{sectors_in}
use Rattle.file_device.proofs.Written.{kept_if_written, run_if_written, within_written}
use Rattle.file_device.proofs.disk.FileDiskSectors.write_run.Goals as goal

pub returns-clause-word : goal.returns-clause-word
returns-clause-word g c =
    kept_if_written g.S.Start.reads c.args.first (sectors_in c.args.from.now) (is_ok c.write_run-outcome.result) _ _
    c.write_run-outcome.ensures

pub returns-clause-written : goal.returns-clause-written
returns-clause-written g c =
    run_if_written c.args.self.now.count g.S.Start.reads g.S.Start.may_hold _ c.counted.result _ c.args.first
    c.args.from.now _ _ c.counted.ensures.variant c.write_run-outcome.ensures

pub returns-clause-within : goal.returns-clause-within
returns-clause-within g c word =
    within_written c.args.self.now.count g.S.Start.reads g.S.Start.may_hold c.args.first c.args.from.now
    (is_ok c.write_run-outcome.result) _ _ c.write_run-outcome.ensures
