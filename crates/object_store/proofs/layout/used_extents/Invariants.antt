use Rattle.std.proofs.Common.{◌≡◌, take}
use Rattle.object_store.specs.Places.{used_by}
use Rattle.object_store.proofs.layout.used_extents.Given as goal

abbrev pub invariant-loop-k : goal.invariant-loop-k
invariant-loop-k l = l.used.items ≡ used_by l.superblock (take l.k l.entries)
