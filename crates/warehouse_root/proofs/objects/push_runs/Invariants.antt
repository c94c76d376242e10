use Rattle.std.proofs.Common.{◌≡◌, ◌++◌, take}
use Rattle.std.specs.List.{flat_map}
use Rattle.warehouse_root.specs.Objects.{run_ids}
use Rattle.warehouse_root.proofs.objects.push_runs.Given as goal

abbrev pub invariant-loop-cuboid : goal.invariant-loop-cuboid
invariant-loop-cuboid l = l.out.items ≡ l.initial.out.items ++ flat_map run_ids (take l.cuboid-index l.cuboids)
