use Rattle.std.proofs.Common.{◌≡◌, false, Some}
use Rattle.cube_query.specs.Groups.{IsOver}
use Rattle.object_store.specs.Disk.{Leaves}
use Rattle.object_store.specs.Store.{IsStill, content_of, device_of, disk_of, has_failed}
use Rattle.warehouse_objects.specs.Represents.{AreItsMembers, Represents, said_of}
use Rattle.warehouse_objects.specs.Warehouse.{Cuboid, Warehouse, cuboid_at}
use Rattle.stored_cuboids.specs.Counted.{AreCounted}
use Rattle.stored_cuboids.proofs.folding.fold_runs.Given as goal

abbrev pub invariant-loop-run : goal.invariant-loop-run
invariant-loop-run g l =
    let first = content_of g.D.Sectors l.initial.store in record {
      fine : has_failed l.store ≡ false;
      still : IsStill g.D.Sectors l.initial.store l.store;
      leaves : Leaves (disk_of g.D.Sectors l.initial.store) (disk_of g.D.Sectors l.store) (λ c. c ≡ first);
      over : IsOver l.dims l.fold;
      query : l.fold.query ≡ l.initial.fold.query;
      own : g.D.Sectors.keeps_word (device_of l.store) → (w : Warehouse) (stored : Cuboid) → Represents first w
          → AreItsMembers w l.dims l.modes → cuboid_at l.cuboid.view w.cuboids ≡ Some stored
          → said_of stored ≡ l.cuboid → AreCounted w stored l.dims l.run l.fold l.at;
    }
