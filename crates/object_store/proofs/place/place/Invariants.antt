use Rattle.std.proofs.Common.{take}
use Rattle.object_store.specs.Commit.{puts_of}
use Rattle.object_store.specs.Placing.{ArePlaced}
use Rattle.object_store.proofs.place.place.Given as goal

abbrev pub invariant-loop-k : goal.invariant-loop-k
invariant-loop-k l = ArePlaced l.initial.free (take l.k (puts_of l.puts)) l.placed.items l.free
