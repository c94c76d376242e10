use Rattle.std.proofs.Common.{◌≡◌, map, take}
use Rattle.warehouse_objects.specs.Represents.{root_of}
use Rattle.warehouse_objects.specs.Warehouse.{Warehouse}
use Rattle.planned_queries.specs.Planned.{seen_of}
use Rattle.planned_queries.proofs.planning.stored_in.Given as goal

-- the cuboids so far
abbrev pub invariant-loop-cuboid : goal.invariant-loop-cuboid
invariant-loop-cuboid l = (w : Warehouse) → l.initial.root ≡ root_of w
    → l.stored.items ≡ map seen_of (take l.cuboid-index w.cuboids)
