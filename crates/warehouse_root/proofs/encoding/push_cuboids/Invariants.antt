use Rattle.std.proofs.Common.{◌≡◌, ◌++◌, take}
use Rattle.std.specs.List.{flat_map}
use Rattle.warehouse_root.specs.Root.{cuboid_of}
use Rattle.warehouse_root.proofs.encoding.push_cuboids.Given as goal

abbrev pub invariant-loop-cuboid : goal.invariant-loop-cuboid
invariant-loop-cuboid l = l.out.items ≡ l.initial.out.items ++ flat_map cuboid_of (take l.cuboid-index l.cuboids)
