use Rattle.std.proofs.Common.{◌≡◌, ◌<◌, ℕ, false, get_or, length}
use Rattle.object_store.specs.Disk.{Leaves}
use Rattle.object_store.specs.Store.{IsStill, content_of, device_of, disk_of, has_failed}
use Rattle.warehouse_objects.specs.Represents.{AreItsMembers, IsLaidOut, root_of}
use Rattle.warehouse_objects.specs.Warehouse.{Cuboid, Warehouse}
use Rattle.stored_cuboids.specs.Merged.{IsSound}
use Rattle.warehouse_check.proofs.cuboids.check_cuboids.Given as goal

abbrev pub invariant-loop-cuboid : goal.invariant-loop-cuboid
invariant-loop-cuboid g l =
    let first = content_of g.D.Sectors l.initial.store in record {
      fine : has_failed l.store ≡ false;
      still : IsStill g.D.Sectors l.initial.store l.store;
      leaves : Leaves (disk_of g.D.Sectors l.initial.store) (disk_of g.D.Sectors l.store) (λ c. c ≡ first);
      own : g.D.Sectors.keeps_word (device_of l.store) → (w : Warehouse) → IsLaidOut first w → l.root ≡ root_of w
          → AreItsMembers w l.dims l.modes
          → (k : ℕ) (d : Cuboid) → k < l.cuboid-index → k < length w.cuboids → IsSound w (get_or w.cuboids k d);
    }
