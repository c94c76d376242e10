-- A store before its first call, one that was read, and one that a refusal left as it was.
use Rattle.std.proofs.Common.{◌≡◌, ◌≢◌, ◌∙◌, ap, sym, subst, List, ℕ, true, false, Result, Ok, Err, IfErr}
use Rattle.std.specs.Prelude.{IsErrOf, OnErr, OnOk}
use Rattle.sector_device.specs.declared.device.Sectors.{Ghosts}
use Rattle.sector_device.specs.Device.{Image, IsImage}
use Rattle.cube_model.specs.declared.fault.Fault.{Fault}
use Rattle.cube_model.specs.declared.fault.Fault.TheVariants.{Device}
use Rattle.cube_model.specs.declared.rows.DimRows.{DimRows}
use Rattle.object_store.specs.Content.{Content}
use Rattle.object_store.specs.Disk.{Disk, Leaves}
use Rattle.object_store.proofs.Moments.{leaves_weaker}
use Rattle.object_store.specs.Store.{Breaks, IsAsBefore, IsStill, content_of, disk_of, has_failed}
use Rattle.object_store.proofs.CallerLemmas.{leaves_now}
use Rattle.object_store.specs.declared.store.Store.{Store}
use Rattle.warehouse_root.specs.Root.{PlainRoot}
use Rattle.warehouse_objects.specs.Loaded.{IsLoaded}
use Rattle.warehouse_objects.specs.Represents.{Represents}
use Rattle.warehouse_objects.specs.Warehouse.{Warehouse}
use Rattle.stored_cuboids.specs.Keeping.{StoreAt}

module _ {D : Type 0} (g : Ghosts D) (a b : Store D g) where
  pub at_still : IsStill g a b → (root : PlainRoot) (w : Warehouse) → StoreAt g a root w → StoreAt g b root w
  at_still still root w is = record {
    fine = still.failed ∙ is.fine;
    represents = λ k. subst (λ (x : Content). Represents x w) (sym (still.content k)) (is.represents (still.word k));
    root_is = λ k. is.root_is (still.word k);
  }

  pub back_still : IsStill g a b → (disk_of g b).keeps_word → (w : Warehouse) → Represents (content_of g b) w
      → Represents (content_of g a) w
  back_still still k w represents = subst (λ (x : Content). Represents x w) (still.content k) represents

  pub loaded_still : IsStill g a b → (disk_of g b).keeps_word → (rows : DimRows)
      (modes : List (List ℕ)) (root : PlainRoot)
      → IsLoaded (content_of g a) rows modes root → IsLoaded (content_of g b) rows modes root
  loaded_still still k rows modes root is =
      subst (λ (x : Content). IsLoaded x rows modes root) (sym (still.content k)) is

  pub at_before : IsAsBefore g a b → (root : PlainRoot) (w : Warehouse) → StoreAt g a root w → StoreAt g b root w
  at_before same root w is = record {
    fine = same.failed ∙ is.fine;
    represents =
        λ k. subst (λ (x : Content). Represents x w) (sym same.content)
        (is.represents (subst (λ (d : D). g.keeps_word d) same.device k));
    root_is = λ k. is.root_is (subst (λ (d : D). g.keeps_word d) same.device k);
  }

  pub loaded_before : IsAsBefore g a b → (rows : DimRows) (modes : List (List ℕ)) (root : PlainRoot)
      → IsLoaded (content_of g a) rows modes root → IsLoaded (content_of g b) rows modes root
  loaded_before same rows modes root is = subst (λ (x : Content). IsLoaded x rows modes root) (sym same.content) is

  -- what is kept in memory of it, where a call stored another root or was refused
  pub loaded_or_before : (old new : PlainRoot) (result : Result Unit Fault)
      → OnOk result ((disk_of g b).keeps_word → (rows : DimRows) (modes : List (List ℕ))
      → IsLoaded (content_of g a) rows modes old → IsLoaded (content_of g b) rows modes new)
      → OnErr result (new ≡ old) → IfErr result (λ fault. fault ≢ Device → IsAsBefore g a b)
      → (IsErrOf result Device → Breaks g a b) → has_failed b ≡ false → (disk_of g b).keeps_word → (rows : DimRows)
      (modes : List (List ℕ)) → IsLoaded (content_of g a) rows modes old → IsLoaded (content_of g b) rows modes new
  loaded_or_before old new (Ok done) ok kept refused device fine k rows modes is = ok k rows modes is
  loaded_or_before old new (Err fault) ok kept refused device fine k rows modes is =
      let other : fault ≢ Device = λ e.
      let broken : has_failed b ≡ true = (device (ap (λ (f : Fault). Err f) e)).failed in
      absurd cc in
      subst (λ (root : PlainRoot). IsLoaded (content_of g b) rows modes root) (sym kept)
      (loaded_before (refused other) rows modes old is)

-- before its first call, a store leaves the warehouse that it represents
module _ {D : Type 0} (g : Ghosts D)
    (only : (d : D) (image : Image) → g.keeps_word d → (g.state d).left_since (g.state d).moment image
    → IsImage (g.state d) image) (store : Store D g) (w : Warehouse) (root : PlainRoot) (at : StoreAt g store root w)
  where
    pub leaves_first : (P : Content → Type 0) → ((c : Content) → Represents c w → P c)
        → Leaves (disk_of g store) (disk_of g store) P
    leaves_first P so =
        leaves_weaker (λ c. c ≡ content_of g store) P (disk_of g store) (disk_of g store)
        (λ k c is. so c (subst (λ (x : Content). Represents x w) (sym is) (at.represents k)))
        (leaves_now g only store at.fine)

-- where the word counts alone
pub leaves_if : (P : Content → Type 0) (old new : Disk) → (new.keeps_word → old.keeps_word)
    → (old.keeps_word → Leaves old new P) → Leaves old new P
leaves_if P old new word leaves = record {
  word = word;
  size = λ k. (leaves (word k)).size k;
  moments = λ k. (leaves (word k)).moments k;
}
