use Rattle.std.proofs.Common.{◌∙◌}
use Rattle.file_device.proofs.Runs.{noted}
use Rattle.file_device.proofs.host.HostRawFile.read_run.Goals as goal

pub loop-k-preserved : goal.loop-k-preserved
loop-k-preserved g c =
    c.then-self.ensures ∙ noted c.args.first _ c.loop-k.k c.args.self.now.calls.made c.loop-k.self.calls.made
    c.loop-k-test.true c.loop-k.invariant
