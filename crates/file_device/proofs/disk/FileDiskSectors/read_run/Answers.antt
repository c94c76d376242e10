use Rattle.sector_device.specs.EventRuns.{sectors_in}
use Rattle.file_device.proofs.Runs.{kept_if_run_read, run_if_read, stays_if_run_read}
use Rattle.file_device.proofs.disk.FileDiskSectors.read_run.Goals as goal

pub returns-clause-word : goal.returns-clause-word
returns-clause-word g c =
    kept_if_run_read g.S.Start.reads c.read_run-outcome.result c.args.first (sectors_in c.read_run-outcome.new.to) _ _
    c.read_run-outcome.ensures

pub returns-clause-bytes : goal.returns-clause-bytes
returns-clause-bytes g c =
    run_if_read g.S.Start.reads c.counted.result c.read_run-outcome.result c.args.first c.read_run-outcome.new.to _ _
    c.counted.ensures.variant c.read_run-outcome.ensures

pub returns-clause-stays : goal.returns-clause-stays
returns-clause-stays g c word =
    stays_if_run_read c.args.self.now.count g.S.Start.reads g.S.Start.may_hold c.read_run-outcome.result c.args.first
    (sectors_in c.read_run-outcome.new.to) _ _ c.read_run-outcome.ensures
