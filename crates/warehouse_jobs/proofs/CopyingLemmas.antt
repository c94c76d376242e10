-- A copy from its first device call on.
use Rattle.std.proofs.Common.{◌≡◌, ⊎_elim, inl, inr, sym, subst}
use Rattle.sector_device.specs.declared.device.Sectors.{Ghosts}
use Rattle.cube_model.specs.declared.rows.DimRows.{DimRows}
use Rattle.object_store.specs.Content.{Content}
use Rattle.object_store.specs.Disk.{Disk, Leaves, LeavesOrNone, OnlyImagesOf, ShowsSome, ShowsSomeOrNone, disk}
use Rattle.object_store.proofs.Moments.{passes_also, passes_then}
use Rattle.object_store.specs.Shows.{HasNone}
use Rattle.warehouse_objects.specs.Represents.{Represents}
use Rattle.warehouse_root.specs.declared.layout.Layout.{Layout}
use Rattle.warehouse_objects.specs.Warehouse.{Warehouse, fresh_in}
use Rattle.warehouse_jobs.specs.Copied.{HoldsPart, with_first}
use Rattle.warehouse_jobs.proofs.CopiedParts.{holds_first}

-- the rows of a warehouse, without batches
pub fresh_first : (w : Warehouse) (layout : Layout) (rows : DimRows) → layout ≡ w.layout → rows ≡ w.rows
    → fresh_in layout rows ≡ with_first w 0
fresh_first w layout rows alike same = λ i. fresh_in (alike i) (same i)

module _ (w : Warehouse) (layout : Layout) (rows : DimRows) (alike : layout ≡ w.layout) (same : rows ≡ w.rows) where
  holds_fresh : (c : Content) → Represents c (fresh_in layout rows) → HoldsPart w c
  holds_fresh c represents =
      holds_first w 0 c (subst (λ (v : Warehouse). Represents c v) (fresh_first w layout rows alike same) represents)

  -- what a crash leaves while the store is made
  pub making_leaves : (old new : Disk) → LeavesOrNone old new (λ c. Represents c (fresh_in layout rows))
      → LeavesOrNone old new (HoldsPart w)
  making_leaves old new leaves =
      passes_also (ShowsSomeOrNone (λ (c : Content). Represents c (fresh_in layout rows)))
      (ShowsSomeOrNone (HoldsPart w)) old new
      (λ k size image one. ⊎_elim (λ none. inl none) (λ shown. inr (shown.0, shown.1, holds_fresh shown.0 shown.2)) one)
      leaves

  -- and while it is filled
  pub filling_leaves : (old mid new : Disk) → LeavesOrNone old mid (λ c. Represents c (fresh_in layout rows))
      → Leaves mid new (HoldsPart w) → LeavesOrNone old new (HoldsPart w)
  filling_leaves old mid new first second =
      passes_then (ShowsSomeOrNone (HoldsPart w)) old mid new (making_leaves old mid first)
      (passes_also (ShowsSome (HoldsPart w)) (ShowsSomeOrNone (HoldsPart w)) mid new (λ k size image shown. inr shown)
      second)

-- a device that is given back
module _ {E : Type 0} (h : Ghosts E) (device back kept : E) (same : back ≡ kept) where
  pub back_word : h.keeps_word back → h.keeps_word kept
  back_word k = subst (λ (d : E). h.keeps_word d) same k

  pub back_leaves : (P : Content → Type 0) → LeavesOrNone (disk h device) (disk h kept) P
      → LeavesOrNone (disk h device) (disk h back) P
  back_leaves P leaves = subst (λ (d : E). LeavesOrNone (disk h device) (disk h d) P) (sym same) leaves

  -- a store was made on it, so no read showed a valid superblock
  pub back_spared : (h.keeps_word kept → HasNone (h.state device).reads) → (HasNone (h.state device).reads → ⊥)
      → OnlyImagesOf (disk h device) (disk h back)
  back_spared unformatted some = record {
    word = λ k. absurd (some (unformatted (back_word k)));
    size = λ k. absurd (some (unformatted (back_word k)));
    moments = λ k. absurd (some (unformatted (back_word k)));
  }
