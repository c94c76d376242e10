-- Lemmas of `reading`, by subject.
use Rattle.std.proofs.Common.{◌≡◌, ◌⊎◌, ⊎_elim, inl, inr, ℕ, List, Option, Some, None, Result, Ok, Err, IfErr, IfOk}
use Rattle.std.proofs.Common.{IsErrOf, sym, ◌∙◌, ap, subst}
use Rattle.std.proofs.lemmas.Result.{IfOk-weaker}
use Rattle.cube_model.specs.declared.attr.Axis.TheVariants.{Customer, Supplier, Part, Date}
use Rattle.cube_model.specs.declared.fault.Fault.{Fault}
use Rattle.cube_model.specs.declared.fault.Fault.TheVariants.{BadLayout, Memory}
use Rattle.cube_model.specs.declared.rows.DimRows.{DimRows}
use Rattle.sector_device.specs.declared.device.Sectors.{Ghosts}
use Rattle.object_store.specs.Content.{Content, bytes_of}
use Rattle.object_store.specs.Store.{IsStill, content_of, disk_of}
use Rattle.object_store.specs.declared.store.Store.{Store}
use Rattle.dimension_objects.specs.Spelled.{AreDimensionObjects}
use Rattle.warehouse_objects.specs.Lawful.{RowsAreOne}
use Rattle.dimensions.specs.Shown.{AreStorable}
use Rattle.warehouse_objects.specs.Warehouse.{Warehouse}
use Rattle.warehouse_objects.specs.Represents.{HasRows, Represents, dimension_of, root_of}
use Rattle.warehouse_objects.proofs.Batches.{some_one}
use Rattle.warehouse_objects.proofs.Contents.{has_rows}
use Rattle.warehouse_objects.proofs.Folded.{bad_one, of_fault}
use Rattle.warehouse_root.specs.declared.layout.Layout.{Layout}
use Rattle.warehouse_root.specs.Layouts.{layout_number}
use Rattle.warehouse_root.specs.Root.{IsRootOf, PlainRoot}
use Rattle.warehouse_root.proofs.CallerLemmas.{IsRootOf-one}
use Rattle.warehouse_objects.proofs.OneWarehouse.{one_layout}

-- ==== The dimensions that were read, and those of the warehouse that the content represents.

module _ (a b c d : List ℕ) where
  -- the bytes are those of the rows
  abbrev pub AreOf : DimRows → Type 0
  AreOf dims = (a ≡ dimension_of dims Customer) × (b ≡ dimension_of dims Supplier) × (c ≡ dimension_of dims Part)
      × (d ≡ dimension_of dims Date)

  pub refused_objects : (result : Result DimRows Fault)
      → IfErr result
      (λ fault. (fault ≡ Memory) ⊎ ((fault ≡ BadLayout) × ((rows : DimRows) → ¬ AreDimensionObjects a b c d rows)))
      → IfErr result (λ fault. (fault ≡ Memory) ⊎ ((fault ≡ BadLayout) × ((rows : DimRows) → AreStorable rows
      → a ≡ dimension_of rows Customer → b ≡ dimension_of rows Supplier → c ≡ dimension_of rows Part
      → d ≡ dimension_of rows Date → ⊥)))
  refused_objects (Ok dims) none = tt
  refused_objects (Err fault) none = ⊎_elim (λ memory. inl memory) (λ bad. inr (
    bad.0,
    λ rows storable at_a at_b at_c at_d. bad.1 rows (record {
      customers_are = at_a;
      suppliers_are = at_b;
      parts_are = at_c;
      dates_are = at_d;
      storable = storable;
    }),
  )) none

-- no object of dimensions is missing
there : (bytes : List ℕ) (o : Option (List ℕ)) → o ≡ Some bytes → o ≡ None → ⊥
there bytes o some none = let both : None ≡ Some bytes = sym none ∙ some in cc

module _ (content : Content) (w : Warehouse) (represents : Represents content w) where
  pub first_two_there : (bytes_of content 1 ≡ None) ⊎ (bytes_of content 2 ≡ None) → ⊥
  first_two_there =
      let has = has_rows content w represents in
      ⊎_elim (there (dimension_of w.rows Customer) (bytes_of content 1) has.customers)
      (there (dimension_of w.rows Supplier) (bytes_of content 2) has.suppliers)

  pub last_two_there : (bytes_of content 3 ≡ None) ⊎ (bytes_of content 4 ≡ None) → ⊥
  last_two_there =
      let has = has_rows content w represents in
      ⊎_elim (there (dimension_of w.rows Part) (bytes_of content 3) has.parts)
      (there (dimension_of w.rows Date) (bytes_of content 4) has.dates)

-- the four objects, decoded together
module _ (content : Content) (keeps : Type 0) (a b c d : List ℕ)
    (others : keeps → (bytes_of content 3 ≡ Some c) × (bytes_of content 4 ≡ Some d)) (result : Result DimRows Fault)
  where
    pub four_decoded : IfOk result (AreOf a b c d)
        → IfOk result (λ dims. keeps → bytes_of content 1 ≡ Some a → bytes_of content 2 ≡ Some b → HasRows content dims)
    four_decoded =
        IfOk-weaker result (AreOf a b c d) (λ dims. keeps → bytes_of content 1 ≡ Some a → bytes_of content 2 ≡ Some b
        → HasRows content dims) (λ dims are k one two.
        let rest = others k in record {
          customers = one ∙ ap (λ (l : List ℕ). Some l) are.0;
          suppliers = two ∙ ap (λ (l : List ℕ). Some l) are.1;
          parts = rest.0 ∙ ap (λ (l : List ℕ). Some l) are.2;
          dates = rest.1 ∙ ap (λ (l : List ℕ). Some l) are.3;
        })

    pub four_refused : IfErr result
        (λ fault. (fault ≡ Memory) ⊎ ((fault ≡ BadLayout) × ((rows : DimRows) → AreStorable rows
        → a ≡ dimension_of rows Customer → b ≡ dimension_of rows Supplier → c ≡ dimension_of rows Part
        → d ≡ dimension_of rows Date → ⊥)))
        → IsErrOf result BadLayout → keeps → bytes_of content 1 ≡ Some a → bytes_of content 2 ≡ Some b → (w : Warehouse)
        → ¬ Represents content w
    four_refused refused is k one two w represents =
        let rest = others k in
        let has = has_rows content w represents in
        bad_one ⊥ _ (of_fault _ result BadLayout refused is)
        (λ none. none w.rows represents.rows (some_one a (dimension_of w.rows Customer) (sym one ∙ has.customers))
        (some_one b (dimension_of w.rows Supplier) (sym two ∙ has.suppliers))
        (some_one c (dimension_of w.rows Part) (sym rest.0 ∙ has.parts))
        (some_one d (dimension_of w.rows Date) (sym rest.1 ∙ has.dates)))

-- objects 1 and 2 were read, and then the others over the content that stayed
module _ {D : Type 0} (g : Ghosts D) (old mid new : Store D g) (a b : List ℕ) (still : IsStill g old mid)
    (word : (disk_of g new).keeps_word → (disk_of g mid).keeps_word)
    (first : (disk_of g mid).keeps_word → (bytes_of (content_of g old) 1 ≡ Some a)
    × (bytes_of (content_of g old) 2 ≡ Some b)) where
  -- rows that are there where objects 1 and 2 are those that were read
  abbrev pub AreThere : DimRows → Type 0
  AreThere dims = (disk_of g new).keeps_word → bytes_of (content_of g mid) 1 ≡ Some a
      → bytes_of (content_of g mid) 2 ≡ Some b → HasRows (content_of g mid) dims

  both : (disk_of g new).keeps_word → (bytes_of (content_of g mid) 1 ≡ Some a)
      × (bytes_of (content_of g mid) 2 ≡ Some b)
  both k =
      let two = first (word k) in
      let same : content_of g mid ≡ content_of g old = still.content (word k) in
      (ap (λ (x : Content). bytes_of x 1) same ∙ two.0, ap (λ (x : Content). bytes_of x 2) same ∙ two.1)

  pub rows_there : (dims : DimRows) → AreThere dims → (disk_of g new).keeps_word → HasRows (content_of g old) dims
  rows_there dims has k =
      let two = both k in
      subst (λ (x : Content). HasRows x dims) (still.content (word k)) (has k two.0 two.1)

  pub rows_found : RowsAreOne → (result : Result DimRows Fault) → IfOk result AreThere → IfOk result AreStorable
      → IfOk result (λ dims. (disk_of g new).keeps_word → (w : Warehouse) → Represents (content_of g old) w
      → dims ≡ w.rows)
  rows_found law (Ok dims) has storable =
      λ k w represents. law (content_of g old) dims w.rows storable represents.rows (rows_there dims has k)
      (has_rows (content_of g old) w represents)
  rows_found law (Err fault) has storable = tt

  pub rows_refused : ((disk_of g new).keeps_word → bytes_of (content_of g mid) 1 ≡ Some a
      → bytes_of (content_of g mid) 2 ≡ Some b → (w : Warehouse) → ¬ Represents (content_of g mid) w)
      → (disk_of g new).keeps_word → (w : Warehouse) → ¬ Represents (content_of g old) w
  rows_refused none k w represents =
      let two = both k in
      none k two.0 two.1 w (subst (λ (x : Content). Represents x w) (sym (still.content (word k))) represents)

-- ==== The root that was read, and that of the warehouse that the content represents.

-- the root of the warehouse that a content represents
module _ (content : Content) (layout : Layout) (is : content.layout ≡ layout_number layout) (bytes : List ℕ)
    (same : bytes ≡ content.root) where
  is_root : (w : Warehouse) → Represents content w → IsRootOf layout bytes (root_of w)
  is_root w represents =
      record {
        of_layout = one_layout w.layout layout (sym represents.layout ∙ is);
        is_root = record {
          spelled = same ∙ represents.root.spelled;
          proper = represents.root.proper;
        };
      }

  pub root_found : (result : Result PlainRoot Fault) → IfOk result (IsRootOf layout bytes)
      → IfOk result (λ root. (w : Warehouse) → Represents content w → root ≡ root_of w)
  root_found (Ok root) of = λ w represents. IsRootOf-one layout bytes root (root_of w) of (is_root w represents)
  root_found (Err fault) of = tt

  pub root_refused : (result : Result PlainRoot Fault)
      → IfErr result
      (λ fault. (fault ≡ Memory) ⊎ ((fault ≡ BadLayout) × ((root : PlainRoot) → ¬ IsRootOf layout bytes root)))
      → IfErr result (λ fault. (fault ≡ Memory) ⊎ ((fault ≡ BadLayout) × ((w : Warehouse) → ¬ Represents content w)))
  root_refused (Ok root) none = tt
  root_refused (Err fault) none =
      ⊎_elim (λ memory. inl memory) (λ bad. inr (bad.0, λ w represents. bad.1 (root_of w) (is_root w represents))) none
