use Rattle.std.proofs.Common.{◌≡◌, ◌≤◌, ◌-◌}
use Rattle.std.specs.List.{range_with_len}
use Rattle.warehouse_root.specs.Objects.{run_id}
use Rattle.stored_cuboids.proofs.making.later_runs.Given as goal

abbrev pub invariant-loop-run : goal.invariant-loop-run
invariant-loop-run l = (1 ≤ l.run) × (l.run - 1 ≤ l.cuboid.runs - 1)
    × (l.ids.items ≡ range_with_len (run_id l.cuboid.view 1) (l.run - 1))
