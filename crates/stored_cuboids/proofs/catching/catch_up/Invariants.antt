use Rattle.std.proofs.Common.{◌≡◌, false, length, List, ℕ}
use Rattle.cube_model.specs.declared.rows.DimRows.{DimRows}
use Rattle.object_store.specs.Disk.{Leaves}
use Rattle.object_store.specs.Store.{content_of, device_of, disk_of, has_failed}
use Rattle.warehouse_objects.specs.Loaded.{IsLoaded}
use Rattle.warehouse_objects.specs.Represents.{AreItsMembers, Represents}
use Rattle.warehouse_objects.specs.Warehouse.{Warehouse}
use Rattle.stored_cuboids.specs.Keeping.{IsCaughtUp, StoreAt}
use Rattle.stored_cuboids.proofs.Turns.{AreReached}
use Rattle.stored_cuboids.proofs.catching.catch_up.Given as goal

abbrev pub invariant-loop-place : goal.invariant-loop-place
invariant-loop-place g l =
    let start = l.initial.store in
    let keeps = g.D.Sectors.keeps_word in
    let dims = l.fn.dims in
    let modes = l.fn.modes in record {
      fine : has_failed l.store ≡ false;
      failures : (disk_of g.D.Sectors l.store).failures ≡ (disk_of g.D.Sectors start).failures;
      many : length l.root.cuboids ≡ l.count;
      word : keeps (device_of l.store) → keeps (device_of start);
      loaded : keeps (device_of l.store) → (rows : DimRows) (kept : List (List ℕ))
          → IsLoaded (content_of g.D.Sectors start) rows kept l.initial.root
          → IsLoaded (content_of g.D.Sectors l.store) rows kept l.root;
      at :
          (w : Warehouse) → StoreAt g.D.Sectors start l.initial.root w
          → (keeps (device_of start) → AreItsMembers w dims modes)
          → (v : Warehouse) × IsCaughtUp w v × StoreAt g.D.Sectors l.store l.root v
          × (keeps (device_of l.store) → AreReached l.place l.first v);
      leaves :
          (w : Warehouse) → StoreAt g.D.Sectors start l.initial.root w
          → (keeps (device_of start) → AreItsMembers w dims modes)
          → Leaves (disk_of g.D.Sectors start) (disk_of g.D.Sectors l.store)
          (λ c. (v : Warehouse) × IsCaughtUp w v × Represents c v);
    }
