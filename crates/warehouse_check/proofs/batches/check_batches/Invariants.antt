use Rattle.std.proofs.Common.{◌≡◌, false, take}
use Rattle.object_store.specs.Disk.{Leaves}
use Rattle.object_store.specs.Store.{IsStill, content_of, device_of, disk_of, has_failed}
use Rattle.batch_admission.specs.Accepted.{HasAccepted}
use Rattle.warehouse_objects.specs.Represents.{IsLaidOut, root_of}
use Rattle.warehouse_objects.specs.Warehouse.{Warehouse}
use Rattle.warehouse_check.proofs.Loop.{AreSoFar}
use Rattle.warehouse_check.proofs.batches.check_batches.Given as goal

abbrev pub invariant-loop-said : goal.invariant-loop-said
invariant-loop-said g l =
    let first = content_of g.D.Sectors l.initial.store in record {
      fine : has_failed l.store ≡ false;
      still : IsStill g.D.Sectors l.initial.store l.store;
      leaves : Leaves (disk_of g.D.Sectors l.initial.store) (disk_of g.D.Sectors l.store) (λ c. c ≡ first);
      so_far : AreSoFar (g.D.Sectors.keeps_word (device_of l.store)) first l.dims l.root.batches l.said-index
          l.admission;
      own : g.D.Sectors.keeps_word (device_of l.store) → (w : Warehouse) → IsLaidOut first w → l.root ≡ root_of w
          → l.dims ≡ w.rows → HasAccepted l.admission (take l.said-index w.batches);
    }
