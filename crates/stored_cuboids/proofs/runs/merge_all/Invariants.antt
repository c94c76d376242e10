use Rattle.std.proofs.Common.{◌≡◌, false, Some}
use Rattle.object_store.specs.Disk.{Leaves}
use Rattle.object_store.specs.Store.{IsStill, content_of, device_of, disk_of, has_failed}
use Rattle.warehouse_objects.specs.Represents.{IsLaidOut, said_of}
use Rattle.warehouse_objects.specs.Warehouse.{Cuboid, Warehouse, cuboid_at}
use Rattle.stored_cuboids.specs.Steps.{RunsAreMerged}
use Rattle.stored_cuboids.proofs.runs.merge_all.Given as goal

abbrev pub invariant-loop-run : goal.invariant-loop-run
invariant-loop-run g l =
    let first = content_of g.D.Sectors l.initial.store in record {
      fine : has_failed l.store ≡ false;
      still : IsStill g.D.Sectors l.initial.store l.store;
      leaves : Leaves (disk_of g.D.Sectors l.initial.store) (disk_of g.D.Sectors l.store) (λ c. c ≡ first);
      view : l.cells.view ≡ l.fn.view;
      own : g.D.Sectors.keeps_word (device_of l.store) → (w : Warehouse) (stored : Cuboid) → IsLaidOut first w
          → cuboid_at l.cuboid.view w.cuboids ≡ Some stored
          → said_of stored ≡ l.cuboid → RunsAreMerged stored l.run l.cells l.at;
    }
