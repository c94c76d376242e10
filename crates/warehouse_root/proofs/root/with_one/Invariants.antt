use Rattle.std.proofs.Common.{◌≡◌, take}
use Rattle.warehouse_root.specs.Root.{put_stored_cuboid}
use Rattle.warehouse_root.proofs.root.with_one.Given as goal

abbrev pub invariant-loop-other : goal.invariant-loop-other
invariant-loop-other l = l.put.items ≡ put_stored_cuboid l.cuboid (take l.other-index l.cuboids)
