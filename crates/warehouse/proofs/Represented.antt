-- What a session represents that has not failed, or that a call left unchanged.
use Rattle.std.proofs.Common.{◌≡◌, ℕ, true, false, List, Result, sym, ◌∙◌, subst}
use Rattle.cube_model.specs.declared.fault.Fault.{Fault}
use Rattle.cube_model.specs.declared.rows.DimRows.{DimRows}
use Rattle.warehouse_root.specs.Root.{PlainRoot}
use Rattle.warehouse_objects.specs.Loaded.{IsLoaded}
use Rattle.warehouse_objects.specs.Reads.{ReadsOnly}
use Rattle.sector_device.specs.declared.device.Sectors.{Ghosts}
use Rattle.object_store.specs.Content.{Content}
use Rattle.object_store.specs.Disk.{Disk, Leaves, disk}
use Rattle.object_store.proofs.Frames.{always_shows}
use Rattle.object_store.proofs.Moments.{leaves_weaker}
use Rattle.object_store.proofs.CallerLemmas.{all_weaker}
use Rattle.object_store.specs.Store as stores
use Rattle.object_store.specs.declared.store.Store.{Store}
use Rattle.warehouse_objects.specs.Warehouse.{Warehouse}
use Rattle.warehouse_objects.specs.Represents.{Represents}
use Rattle.warehouse.specs.declared.session.Session.{Session}
use Rattle.warehouse.specs.Session.{IsAt, content_of, disk_of, has_failed}

-- a session that has not failed is at what its content represents
pub is_at : {D : Type 0} (g : Ghosts D) (session : Session D g) (w : Warehouse) → has_failed session ≡ false
    → ((disk_of g session).keeps_word → Represents (content_of g session) w) → IsAt g session w
is_at g session w fine represents = record {
  fine = fine;
  represents = represents;
  all = all_weaker (λ (c : Content). c ≡ content_of g session) (λ (c : Content). Represents c w) (disk_of g session)
      (λ k c e. subst (λ (x : Content). Represents x w) (sym e) (represents k)) (always_shows g session.store fine);
}

module _ {D : Type 0} (g : Ghosts D) (w : Warehouse) where
  pub record StoreAt (store : Store D g) : Type 0 where
    pub fine : stores.has_failed store ≡ false
    pub represents : (stores.disk_of g store).keeps_word → Represents (stores.content_of g store) w

  pub store_at : (session : Session D g) → IsAt g session w → StoreAt session.store
  store_at session at = record { fine = at.fine; represents = at.represents }

  pub session_at : (session : Session D g) → StoreAt session.store → IsAt g session w
  session_at session at = is_at g session w at.fine at.represents

  -- the store holds what it held
  pub still_at : (old new : Store D g) → StoreAt old → stores.IsStill g old new → StoreAt new
  still_at old new at still = record {
    fine = still.failed ∙ at.fine;
    represents = λ k. subst (λ (c : Content). Represents c w) (sym (still.content k)) (at.represents (still.word k));
  }

  pub as_before_at : (old new : Store D g) → StoreAt old → stores.IsAsBefore g old new → StoreAt new
  as_before_at old new at same = record {
    fine = same.failed ∙ at.fine;
    represents =
        λ k. subst (λ (c : Content). Represents c w) (sym same.content)
        (at.represents (subst (λ (d : D). g.keeps_word d) same.device k));
  }

  -- while it shows its content, it represents the warehouse
  pub content_leaves : (old new : Disk) (content : Content) → (old.keeps_word → Represents content w)
      → Leaves old new (λ c. c ≡ content) → Leaves old new (λ c. Represents c w)
  content_leaves old new content represents leaves =
      leaves_weaker (λ (c : Content). c ≡ content) (λ (c : Content). Represents c w) old new
      (λ k c e. subst (λ (x : Content). Represents x w) (sym e) (represents k)) leaves

  -- a store that is as it was shows what it showed
  pub as_before_leaves : (old new : Store D g) → stores.IsAsBefore g old new
      → Leaves (stores.disk_of g old) (stores.disk_of g old) (λ c. Represents c w)
      → Leaves (stores.disk_of g old) (stores.disk_of g new) (λ c. Represents c w)
  as_before_leaves old new same leaves =
      subst (λ (d : D). Leaves (stores.disk_of g old) (disk g d) (λ c. Represents c w)) (sym same.device) leaves

-- what was kept in memory of a store is so after it was read
pub reads_loaded : {D A : Type 0} (g : Ghosts D) (result : Result A Fault) (old new : Store D g) (rows : DimRows)
    (modes : List (List ℕ)) (root : PlainRoot) → ReadsOnly g old new result → stores.has_failed new ≡ false
    → (stores.disk_of g new).keeps_word
    → (stores.has_failed old ≡ false → (stores.disk_of g old).keeps_word
    → IsLoaded (stores.content_of g old) rows modes root)
    → IsLoaded (stores.content_of g new) rows modes root
reads_loaded g result old new rows modes root reads fine k loaded =
    let still : stores.IsStill g old new =
    reads.stays (λ is. let bad : true ≡ false = sym (reads.device is).failed ∙ fine in absurd cc) in
    subst (λ (c : Content). IsLoaded c rows modes root) (sym (still.content k))
    (loaded (sym still.failed ∙ fine) (still.word k))
