use Rattle.std.proofs.Common.{rules}
use Rattle.sector_device.proofs.fuse.FuseSectors.write.Goals as goal
use Rattle.sector_device.proofs.fuse.FuseSectors.write.Goals.{then-self, else-self}

pub returns-then-burn-clause-reached : goal.returns-then-burn-clause-reached
returns-then-burn-clause-reached g c blown reaches = elim c.if-self.branch [
  | then-self w ↦ rw w.self-is (record { answer = w.write.result; holds = search rules; failures = search rules })
  | else-self w ↦ search rules
]
