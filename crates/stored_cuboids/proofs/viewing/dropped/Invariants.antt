use Rattle.std.proofs.Common.{◌≡◌, take}
use Rattle.stored_cuboids.specs.Replacing.{dropped_of}
use Rattle.stored_cuboids.proofs.viewing.dropped.Given as goal

abbrev pub invariant-loop-cuboid : goal.invariant-loop-cuboid
invariant-loop-cuboid l = l.drops.items ≡ dropped_of l.views (take l.cuboid-index l.cuboids)
