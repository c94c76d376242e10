use Rattle.std.proofs.Common.{◌≡◌, take}
use Rattle.sector_device.specs.EventRuns.{with_writes}
use Rattle.file_device.proofs.host.HostRawFile.write_run.Given as goal

abbrev pub invariant-loop-k : goal.invariant-loop-k
invariant-loop-k g l = l.self.calls.made ≡ with_writes l.first (take l.k l.sectors) l.ok l.initial.self.calls.made
