use Rattle.std.proofs.Common.{◌≡◌, false}
use Rattle.object_store.specs.Disk.{Leaves}
use Rattle.object_store.specs.Store.{IsStill, content_of, device_of, disk_of, has_failed}
use Rattle.cuboid_upkeep.specs.Grouping.{RepresentRows}
use Rattle.warehouse_objects.specs.Represents.{IsLaidOut}
use Rattle.warehouse_objects.specs.Warehouse.{Warehouse}
use Rattle.cuboid_upkeep.specs.Growing.{GrowOver, grown}
use Rattle.stored_cuboids.specs.Grouped.{RepresentSomeRows}
use Rattle.stored_cuboids.proofs.BatchesLemmas.{between}
use Rattle.stored_cuboids.proofs.batches.cells_of_batches.Given as goal

abbrev pub invariant-loop-before : goal.invariant-loop-before
invariant-loop-before g l =
    let first = content_of g.D.Sectors l.initial.store in record {
      fine : has_failed l.store ≡ false;
      still : IsStill g.D.Sectors l.initial.store l.store;
      leaves : Leaves (disk_of g.D.Sectors l.initial.store) (disk_of g.D.Sectors l.store) (λ c. c ≡ first);
      view : (grown l.cells).view ≡ l.fn.view;
      some : RepresentSomeRows l.dims l.modes (grown l.cells);
      own : g.D.Sectors.keeps_word (device_of l.store) → (w : Warehouse) → IsLaidOut first w
          → RepresentRows l.dims l.modes (between w.batches l.fn.span.from l.before) (grown l.cells);
      over : GrowOver l.dims l.cells;
    }
