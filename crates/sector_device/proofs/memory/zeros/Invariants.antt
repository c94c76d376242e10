use Rattle.std.proofs.Common.{◌≡◌, replicate}
use Rattle.sector_device.proofs.memory.zeros.Given as goal

abbrev pub invariant-loop : goal.invariant-loop
invariant-loop l = l.sectors.items ≡ replicate l.counter (replicate 512 0)
