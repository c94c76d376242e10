-- Making a warehouse.
use Rattle.std.proofs.Common.{◌≡◌, ◌≢◌, ◌⊎◌, ◌+◌, ◌-◌, ◌^◌, ◌<◌, ◌≤◌, min, ⊎_elim, inl, inr, ℕ, false, List, [], ◌∷◌}
use Rattle.std.proofs.Common.{length, Bor}
use Rattle.std.proofs.lemmas.List.{take-map}
use Rattle.std.proofs.Common.{take, Result, Ok, Err, IfErr, IfOk, refl, sym, ◌∙◌, ap, subst, arith}
use Rattle.cube_model.specs.declared.fault.Fault.{Fault}
use Rattle.cube_model.specs.declared.fault.Fault.TheVariants.{AlreadyFormatted, Device, DeviceSize, Full, Memory}
use Rattle.sector_device.specs.declared.device.Sectors.{Ghosts}
use Rattle.sector_device.specs.Device.{Image, IsImage}
use Rattle.cube_model.specs.declared.attr.Axis.TheVariants.{Customer, Supplier, Part, Date}
use Rattle.cube_model.specs.declared.rows.DimRows.{DimRows}
use Rattle.object_store.specs.Content.{Content}
use Rattle.object_store.specs.Commit.{created, IsFew, puts_of}
use Rattle.object_store.specs.Disk.{Disk, disk, Each, IsBlank, LeavesOrNone, OnlyImagesOf, ShowsSomeOrNone}
use Rattle.object_store.proofs.Moments.{begins, passes_also}
use Rattle.object_store.specs.Room.{LacksRoom, empty_room}
use Rattle.object_store.specs.Shows.{HasNone}
use Rattle.object_store.specs.Store.{content_of, disk_of, has_failed}
use Rattle.object_store.specs.declared.store.Store.{Store}
use Rattle.object_store.proofs.CallerLemmas.{few_created}
use Rattle.warehouse_root.specs.declared.layout.Layout.{Layout}
use Rattle.warehouse_root.specs.declared.layout.Layout.TheVariants.{First, Second}
use Rattle.warehouse_root.specs.Layouts.{dimension_object_count, layout_number}
use Rattle.warehouse_root.specs.Modes.{modes_spelling}
use Rattle.warehouse_root.specs.Root as roots
use Rattle.warehouse_root.specs.Root.{PlainRoot}
use Rattle.dimensions.specs.Shown.{AreStorable}
use Rattle.warehouse_objects.specs.Warehouse.{fresh_in}
use Rattle.warehouse_objects.specs.Represents.{HasModes, Represents, dimension_of, root_of}
use Rattle.warehouse_objects.specs.Lawful.{beginning_puts}
use Rattle.warehouse.specs.Creating.{MakesStore, RefusesToMake}
use Rattle.warehouse_objects.specs.Loaded.{IsLoaded}
use Rattle.warehouse_objects.proofs.CallerLemmas.{no_modes, represents_created}

-- the objects that are put: the first ones of five, as many as the layout has
five_are : (rows : DimRows) (customers suppliers parts dates modes : List ℕ) → customers ≡ dimension_of rows Customer
    → suppliers ≡ dimension_of rows Supplier → parts ≡ dimension_of rows Part → dates ≡ dimension_of rows Date
    → modes ≡ modes_spelling []
    → (1, customers) ∷ (2, suppliers) ∷ (3, parts) ∷ (4, dates) ∷ (5, modes) ∷ [] ≡ beginning_puts Second rows
five_are rows customers suppliers parts dates modes a b c d e = λ i.
    (1, a i) ∷ (2, b i) ∷ (3, c i) ∷ (4, d i) ∷ (5, e i) ∷ []

first_ones : (layout : Layout) (rows : DimRows)
    → take (dimension_object_count layout) (beginning_puts Second rows) ≡ beginning_puts layout rows
first_ones First rows = refl
first_ones Second rows = refl

pub puts_are : (layout : Layout) (rows : DimRows) (count : ℕ) (customers suppliers parts dates modes : Bor (List ℕ))
    → count ≡ dimension_object_count layout → customers.now ≡ dimension_of rows Customer
    → suppliers.now ≡ dimension_of rows Supplier → parts.now ≡ dimension_of rows Part
    → dates.now ≡ dimension_of rows Date → modes.now ≡ modes_spelling []
    → puts_of (take count ((1, customers) ∷ (2, suppliers) ∷ (3, parts) ∷ (4, dates) ∷ (5, modes) ∷ []))
    ≡ beginning_puts layout rows
puts_are layout rows count customers suppliers parts dates modes many a b c d e =
    let five : List (ℕ × Bor (List ℕ)) = (1, customers) ∷ (2, suppliers) ∷ (3, parts) ∷ (4, dates) ∷ (5, modes) ∷ [] in
    sym (take-map (λ (put : ℕ × Bor (List ℕ)). (put.0, put.1.now)) count five)
    ∙ ap (λ (n : ℕ). take n (puts_of five)) many
    ∙ ap (λ (l : List (ℕ × List ℕ)). take (dimension_object_count layout) l)
    (five_are rows customers.now suppliers.now parts.now dates.now modes.now a b c d e)
    ∙ first_ones layout rows

few_puts : (layout : Layout) (rows : DimRows) → length (beginning_puts layout rows) ≤ 5
few_puts First rows = omega arith
few_puts Second rows = omega arith

-- the content of no batch has no ship modes
no_modes_there : (layout : Layout) (rows : DimRows) (c : Content) → Represents c (fresh_in layout rows)
    → HasModes c layout []
no_modes_there First rows c represents = refl
no_modes_there Second rows c represents = represents.objects 5

module _ (l : Layout) (rows : DimRows) (puts : List (ℕ × List ℕ)) (bytes : List ℕ) (layout : ℕ) (root : PlainRoot)
    (storable : AreStorable rows)
    (are : puts ≡ beginning_puts l rows) (root_is : root ≡ roots.first_root l)
    (bytes_are : bytes ≡ roots.root_spelling root) (layout_is : layout ≡ layout_number l) where
  pub few_at_first : IsFew (created puts bytes layout)
  few_at_first =
      let many : length puts ≡ length (beginning_puts l rows) = ap (λ (p : List (ℕ × List ℕ)). length p) are in
      omega (arith, many, few_puts l rows, few_created puts bytes layout)

  pub represents_at_first : Represents (created puts bytes layout) (fresh_in l rows)
  represents_at_first =
      subst (λ (p : List (ℕ × List ℕ)). Represents (created p bytes layout) (fresh_in l rows)) (sym are)
      (subst (λ (b : List ℕ). Represents (created (beginning_puts l rows) b layout) (fresh_in l rows))
      (sym (bytes_are ∙ ap roots.root_spelling root_is))
      (subst (λ (n : ℕ). Represents (created (beginning_puts l rows) (roots.root_spelling (roots.first_root l)) n)
      (fresh_in l rows)) (sym layout_is)
      (represents_created l rows storable)))

  pub loaded_at_first : IsLoaded (created puts bytes layout) rows [] root
  loaded_at_first =
      let represents = represents_at_first in record {
        layout = represents.layout ∙ ap (λ (r : PlainRoot). layout_number r.layout) (sym root_is);
        has_rows = record {
          customers = represents.objects 1;
          suppliers = represents.objects 2;
          parts = represents.objects 3;
          dates = represents.objects 4;
        };
        has_modes = subst (λ (r : PlainRoot). HasModes (created puts bytes layout) r.layout []) (sym root_is)
            (no_modes_there l rows (created puts bytes layout) represents);
        are_modes = no_modes;
        storable = storable;
        is_root = subst (roots.IsRoot (created puts bytes layout).root) (same ∙ sym root_is) represents.root;
      } where
        same : root_of (fresh_in l rows) ≡ roots.first_root l
        same = refl

  -- until the end an image has no valid superblock, or represents the warehouse
  pub create_leaves : (old new : Disk) → LeavesOrNone old new (λ c. c ≡ created puts bytes layout)
      → LeavesOrNone old new (λ c. Represents c (fresh_in l rows))
  create_leaves old new =
      passes_also (ShowsSomeOrNone (λ (c : Content). c ≡ created puts bytes layout))
      (ShowsSomeOrNone (λ (c : Content). Represents c (fresh_in l rows))) old new
      (λ k size image. ⊎_elim (λ none. inl none)
      (λ shown. inr
      (shown.0, shown.1, subst (λ (c : Content). Represents c (fresh_in l rows)) (sym shown.2) represents_at_first)))

  module _ {D : Type 0} (g : Ghosts D) (device : D) where
    -- what a store was made of is the warehouse
    pub makes_store : (result : Result (Store D g) (Fault × D))
        → IfOk result (λ store. Each (disk g device) IsBlank
        → LeavesOrNone (disk g device) (disk_of g store) (λ c. c ≡ created puts bytes layout))
        → IfOk result (λ store. has_failed store ≡ false)
        → IfOk result (λ store. (disk_of g store).keeps_word → content_of g store ≡ created puts bytes layout)
        → IfOk result (λ store. (disk_of g store).keeps_word → HasNone (g.state device).reads)
        → IfOk result (MakesStore g device l rows root)
    makes_store (Ok store) leaves fine content none = record {
      leaves = λ blank. create_leaves (disk g device) (disk_of g store) (leaves blank);
      fine = fine;
      represents = λ k. subst (λ (c : Content). Represents c (fresh_in l rows)) (sym (content k)) represents_at_first;
      loaded = λ k. subst (λ (c : Content). IsLoaded c rows [] root) (sym (content k)) loaded_at_first;
      unformatted = none;
    }
    makes_store (Err e) leaves fine content none = tt

    -- nor was one made where there is no store of it
    pub refuses_to_make : (result : Result (Store D g) (Fault × D))
        → IfErr result (λ e. Each (disk g device) IsBlank
        → LeavesOrNone (disk g device) (disk g e.1) (λ c. c ≡ created puts bytes layout))
        → IfErr result (λ e. e.0 ≢ Device → Each (disk g device) IsBlank → Each (disk g e.1) IsBlank)
        → IfErr result (λ e. g.keeps_word e.1 → Each (disk g device) IsBlank → e.0 ≢ AlreadyFormatted)
        → IfErr result (λ e. e.0 ≡ AlreadyFormatted → OnlyImagesOf (disk g device) (disk g e.1))
        → IfErr result (λ e. (HasNone (g.state device).reads → ⊥) → OnlyImagesOf (disk g device) (disk g e.1))
        → IfErr result (λ e. e.0 ≡ Device → g.failed e.1 ≡ min (g.failed device + 1) (2 ^ 64 - 1))
        → IfErr result (λ e. e.0 ≡ DeviceSize → (g.state device).size < 64)
        → IfErr result (λ e. e.0 ≡ Full → LacksRoom (empty_room (g.state device).size) puts [] bytes)
        → IfErr result
        (λ e. (e.0 ≡ AlreadyFormatted) ⊎ ((e.0 ≡ DeviceSize) ⊎ ((e.0 ≡ Device) ⊎ ((e.0 ≡ Full) ⊎ (e.0 ≡ Memory)))))
        → IfErr result (λ e. RefusesToMake g device l rows e.0 e.1)
    refuses_to_make (Ok store) leaves still_blank not_already only spared failures size full causes = tt
    refuses_to_make (Err e) leaves still_blank not_already only spared failures size full causes = record {
      leaves = λ blank. create_leaves (disk g device) (disk g e.1) (leaves blank);
      still_blank = still_blank;
      not_already = not_already;
      only = only;
      spared = spared;
      failures = failures;
      size = size;
      full = λ is.
          subst (λ (p : List (ℕ × List ℕ)). LacksRoom (empty_room (g.state device).size) p []
          (roots.root_spelling (roots.first_root l))) are
          (subst (λ (l : List ℕ). LacksRoom (empty_room (g.state device).size) puts [] l)
          (bytes_are ∙ ap roots.root_spelling root_is) (full is));
      causes = causes;
    }

-- there was no memory before the first device call
pub no_memory : {D : Type 0} (g : Ghosts D) (device : D) (l : Layout) (rows : DimRows) (fault : Fault)
    → (g.keeps_word device → (image : Image) → (g.state device).left_since (g.state device).moment image
    → IsImage (g.state device) image) → fault ≡ Memory → RefusesToMake g device l rows fault device
no_memory g device l rows fault now memory = record {
  leaves = λ blank. begins (ShowsSomeOrNone (λ (c : Content). Represents c (fresh_in l rows))) (disk g device) now
      (λ k image is. inl (blank k image is));
  still_blank = λ other blank. blank;
  not_already = λ k blank already. let is : Memory ≡ AlreadyFormatted = sym memory ∙ already in absurd cc;
  only = λ already. begins (λ _ (image : Image). IsImage (g.state device) image) (disk g device) now (λ k image is. is);
  spared = λ formatted. begins (λ _ (image : Image). IsImage (g.state device) image) (disk g device) now
      (λ k image is. is);
  failures = λ other. let is : Memory ≡ Device = sym memory ∙ other in absurd cc;
  size = λ other. let is : Memory ≡ DeviceSize = sym memory ∙ other in absurd cc;
  full = λ other. let is : Memory ≡ Full = sym memory ∙ other in absurd cc;
  causes = inr (inr (inr (inr memory)));
}

-- the same of equal dimensions
pub made_of : {D : Type 0} (g : Ghosts D) (device : D) (l : Layout) (shared rows : DimRows) (root : PlainRoot)
    (store : Store D g) → shared ≡ rows → MakesStore g device l shared root store
    → MakesStore g device l rows root store
made_of g device l shared rows root store same made =
    subst (λ (dimensions : DimRows). MakesStore g device l dimensions root store) same made

pub refused_of : {D : Type 0} (g : Ghosts D) (device : D) (l : Layout) (shared rows : DimRows) (fault : Fault)
    (back : D)
    → shared ≡ rows → RefusesToMake g device l shared fault back → RefusesToMake g device l rows fault back
refused_of g device l shared rows fault back same refused =
    subst (λ (dimensions : DimRows). RefusesToMake g device l dimensions fault back) same refused
