use Rattle.std.proofs.Common.{◌∙◌}
use Rattle.file_device.proofs.Written.{noted_write}
use Rattle.file_device.proofs.host.HostRawFile.write_run.Goals as goal

pub loop-k-preserved : goal.loop-k-preserved
loop-k-preserved g c =
    c.then-self.ensures ∙ noted_write c.args.first _ _ c.loop-k.k c.args.self.now.calls.made c.loop-k.self.calls.made
    c.loop-k-test.true c.loop-k.invariant
