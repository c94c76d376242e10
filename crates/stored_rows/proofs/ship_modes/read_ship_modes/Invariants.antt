use Rattle.std.proofs.Common.{◌≡◌, false}
use Rattle.object_store.specs.Disk.{Leaves}
use Rattle.object_store.specs.Store.{IsStill, content_of, device_of, disk_of, has_failed}
use Rattle.warehouse_objects.specs.Represents.{Represents, root_of}
use Rattle.warehouse_objects.specs.Warehouse.{Warehouse}
use Rattle.stored_rows.specs.Gathered.{IsGathered}
use Rattle.stored_rows.proofs.ship_modes.read_ship_modes.Given as goal

abbrev pub invariant-loop-before : goal.invariant-loop-before
invariant-loop-before g l =
    let first = content_of g.D.Sectors l.initial.store in record {
      fine : has_failed l.store ≡ false;
      still : IsStill g.D.Sectors l.initial.store l.store;
      leaves : Leaves (disk_of g.D.Sectors l.initial.store) (disk_of g.D.Sectors l.store) (λ c. c ≡ first);
      own : g.D.Sectors.keeps_word (device_of l.store) → (w : Warehouse) → Represents first w → l.root ≡ root_of w
          → IsGathered w.batches l.before l.gathered;
    }
