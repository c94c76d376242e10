-- Lemmas of `batches`, by subject.
use Rattle.std.proofs.Common.{◌≡◌, ◌<◌, ◌≤◌, ◌∙◌, zero, suc, sym, ap, refl, arith, ℕ, List, [], ◌∷◌, ◌++◌, length, take}
use Rattle.std.proofs.Common.{drop, slice_get, Some, append-nil, ◌⊎◌, ⊎_elim, inl, inr, subst, true, get_or, None, All}
use Rattle.std.proofs.Common.{append_assoc, ◌+◌, Option, map}
use Rattle.std.proofs.lemmas.Grind.{flat_map-append}
use Rattle.std.proofs.lemmas.List.{drop-append-le, length-take-le, take-append-drop, get_or-map, length-map}
use Rattle.std.proofs.lemmas.Option.{slice_get_within, get_or_from_slice_get, slice_get-map}
use Rattle.cube_model.specs.Admission.{all_rows, unknown_key}
use Rattle.cube_model.specs.declared.rows.LineOrder.{LineOrder}
use Rattle.warehouse_objects.proofs.Batches.{take_next, foldable, segment_at, some_one}
use Rattle.cube_model.specs.declared.fault.Fault.{Fault}
use Rattle.cube_model.specs.declared.fault.Fault.TheVariants.{BadLayout, Device, Memory, TooManyCells}
use Rattle.cube_model.specs.declared.rows.DimRows.{DimRows}
use Rattle.lattice.specs.declared.view.View.{View}
use Rattle.lattice.specs.Views.{index_of, mode_number}
use Rattle.cuboid_cells.specs.Cells.{PlainCells}
use Rattle.cuboid_upkeep.specs.Steps.{AreUnfit, HaveTooMany, IsAddFault}
use Rattle.stored_cuboids.specs.Grouped.{EndsGrouping, IsAddFaultOf, RepresentSomeRows}
use Rattle.std.specs.List.{list_any}
use Rattle.std.specs.Str.{bytes_eq}
use Rattle.std.proofs.lemmas.List.Elements.{All-cons, All-head, All-nil, All-tail}
use Rattle.cube_model.specs.Limits.{most_members}
use Rattle.cube_model.specs.ShipModes.{modes_in}
use Rattle.dictionary.specs.Dictionary.{firsts}
use Rattle.dictionary.specs.Columns.{place_of}
use Rattle.dictionary.proofs.CallerLemmas.{bytes_eq-refl, list_any_here, list_any-firsts, place_within}
use Rattle.group_numbers.specs.Numbers.{IsKnown}
use Rattle.cuboid_upkeep.specs.Codes.{IsMode}
use Rattle.cuboid_upkeep.specs.Grouping.{HasMembers, PassType, RepresentRows}
use Rattle.cuboid_upkeep.specs.Lawful.{MoreRowsHaveNoFewerCells, RowsHaveCells, RowsInRangeFit}
use Rattle.cube_query.proofs.Known.{known_after}
use Rattle.warehouse_root.specs.declared.layout.Layout.{Layout}
use Rattle.warehouse_root.specs.declared.layout.Layout.TheVariants.{First, Second}
use Rattle.warehouse_root.specs.Layouts.{view_count}
use Rattle.warehouse_root.specs.Modes.{AreModes, kept_modes}
use Rattle.warehouse_objects.specs.Represents.{AreItsMembers, IsLaidOut}
use Rattle.warehouse_objects.specs.Warehouse.{AreInOrder, Warehouse, ship_modes_of}
use Rattle.std.specs.Option.{option_map}
use Rattle.object_store.specs.Content.{Content, bytes_of}
use Rattle.column_segment.specs.Segment.{IsSegment, segment_of}
use Rattle.column_segment.proofs.CallerLemmas.{IsSegment-one}
use Rattle.warehouse_objects.proofs.Contents.{object_batch}

-- ==== The fact rows of the batches of a span, in parts.

abbrev pub between : List (List LineOrder) → ℕ → ℕ → List LineOrder
between batches from to = all_rows (drop from (take to batches))

pub none_between : {A : Type 0} (n : ℕ) (xs : List A) → drop n (take n xs) ≡ []
none_between zero xs = refl
none_between (suc n) [] = refl
none_between (suc n) (x ∷ xs) = none_between n xs

pub rows_append : (one other : List (List LineOrder)) → all_rows (one ++ other) ≡ all_rows one ++ all_rows other
rows_append one other = flat_map-append (λ (batch : List LineOrder). batch) one other

-- one batch more
pub one_more : (batches : List (List LineOrder)) (from n : ℕ) (batch : List LineOrder) → from ≤ n
    → slice_get batches n ≡ Some batch
    → between batches from (suc n) ≡ between batches from n ++ batch
one_more batches from n batch le is =
    let within : n < length batches = slice_get_within batches n batch is in
    let many : length (take n batches) ≡ n = length-take-le n batches (omega (arith, within)) in
    ap (λ (l : List (List LineOrder)). all_rows (drop from l)) (take_next batches n batch is)
    ∙ ap all_rows (drop-append-le from (take n batches) (batch ∷ []) (omega (arith, many, le)))
    ∙ rows_append (drop from (take n batches)) (batch ∷ [])
    ∙ ap (λ (l : List LineOrder). between batches from n ++ l) (append-nil batch)

-- the rows of the first batches end with those of the last of them
pub ends_with : (batches : List (List LineOrder)) (from to : ℕ)
    → all_rows (take to batches) ≡ all_rows (take from (take to batches)) ++ between batches from to
ends_with batches from to =
    ap all_rows (sym (take-append-drop from (take to batches)))
    ∙ rows_append (take from (take to batches)) (drop from (take to batches))

-- the rows of a span begin with those of its first batches
within_parts : {A : Type 0} (from mid to : ℕ) (xs : List A) → from ≤ mid → mid ≤ to
    → drop from (take to xs) ≡ drop from (take mid xs) ++ drop mid (take to xs)
within_parts zero zero to xs low high = refl
within_parts zero (suc mid) zero xs low high = absurd (omega (arith, high))
within_parts zero (suc mid) (suc to) [] low high = refl
within_parts {A = A} zero (suc mid) (suc to) (x ∷ xs) low high =
    ap (λ (l : List A). x ∷ l) (within_parts zero mid to xs (omega arith) (omega (arith, high)))
within_parts (suc from) zero to xs low high = absurd (omega (arith, low))
within_parts (suc from) (suc mid) zero xs low high = absurd (omega (arith, high))
within_parts (suc from) (suc mid) (suc to) [] low high = refl
within_parts (suc from) (suc mid) (suc to) (x ∷ xs) low high =
    within_parts from mid to xs (omega (arith, low)) (omega (arith, high))

pub begins_with : (batches : List (List LineOrder)) (from mid to : ℕ) → from ≤ mid → mid ≤ to
    → between batches from to ≡ between batches from mid ++ between batches mid to
begins_with batches from mid to low high =
    ap all_rows (within_parts from mid to batches low high)
    ∙ rows_append (drop from (take mid batches)) (drop mid (take to batches))

-- ==== Why fact rows are not grouped into cells.

module _ (dimensions : DimRows) (modes : List (List ℕ)) (cells : PlainCells) (rows : List LineOrder) where
  -- a read was refused, where the object is there
  pub read_refused : (fault : Fault) → (fault ≡ Memory) ⊎ ((fault ≡ Device) ⊎ (fault ≡ BadLayout))
      → (fault ≡ Device → ⊥) → (fault ≡ BadLayout → ⊥) → IsAddFaultOf dimensions modes cells rows fault
  read_refused fault causes other there so_far represent =
      ⊎_elim (λ (memory : fault ≡ Memory). inl memory)
      (λ (two : (fault ≡ Device) ⊎ (fault ≡ BadLayout)). absurd
      (⊎_elim (λ (device : fault ≡ Device). other device) (λ (bad : fault ≡ BadLayout). there bad) two)) causes

  -- bytes were refused, where they are those of a batch
  pub decode_refused : {P : Type 0} (fault : Fault) → (fault ≡ Memory) ⊎ ((fault ≡ BadLayout) × P) → (P → ⊥)
      → IsAddFaultOf dimensions modes cells rows fault
  decode_refused {P} fault causes not so_far represent =
      ⊎_elim (λ (memory : fault ≡ Memory). inl memory) (λ (bad : (fault ≡ BadLayout) × P). absurd (not bad.1)) causes

  pub add_causes : (fault : Fault) → RepresentSomeRows dimensions modes cells
      → IsAddFaultOf dimensions modes cells rows fault
      → EndsGrouping (index_of cells.view) fault
  add_causes fault some why =
      ⊎_elim (λ (memory : fault ≡ Memory). inl memory)
      (⊎_elim (λ bad. inr (inr (inl bad.0))) (λ many. inr (inr (inr many.0))))
      (why some.0 some.1)

  pub never_device_here : RepresentSomeRows dimensions modes cells → IsAddFaultOf dimensions modes cells rows Device → ⊥
  never_device_here some why =
      ⊎_elim (λ (memory : Device ≡ Memory). absurd cc)
      (⊎_elim (λ bad. let no_fault : Device ≡ BadLayout = bad.0 in absurd cc)
      (λ many. let no_fault : Device ≡ TooManyCells (index_of cells.view) = many.0 in absurd cc))
      (why some.0 some.1)

module _ (dimensions : DimRows) (modes : List (List ℕ)) (view : View) (rows : List LineOrder) (fault : Fault)
    (why : IsAddFault dimensions modes view rows fault) where
  pub unfit : fault ≡ BadLayout → AreUnfit dimensions modes view rows
  unfit is =
      ⊎_elim (λ (memory : fault ≡ Memory). let no_fault : BadLayout ≡ Memory = sym is ∙ memory in absurd cc)
      (⊎_elim (λ bad. bad.1) (λ many. let no_fault : BadLayout ≡ TooManyCells (index_of view) = sym is
      ∙ many.0 in absurd cc)) why

  pub too_many_of : fault ≡ TooManyCells (index_of view) → HaveTooMany dimensions modes view rows
  too_many_of is =
      ⊎_elim (λ (memory : fault ≡ Memory). let no_fault : TooManyCells (index_of view) ≡ Memory = sym is
      ∙ memory in absurd cc)
      (⊎_elim (λ bad. let no_fault : TooManyCells (index_of view) ≡ BadLayout = sym is ∙ bad.0 in absurd cc)
      (λ many. many.1)) why

-- ==== The fact rows of a warehouse's batches have cells.

-- no cells represent no rows
pub none_represent : (dimensions : DimRows) (modes : List (List ℕ)) (view : View) (cells : PlainCells)
    → cells ≡ record { view = view; cells = [] } → RepresentRows dimensions modes [] cells
none_represent dimensions modes view cells empty =
    subst (λ (plain : PlainCells). RepresentRows dimensions modes [] plain) (sym empty) (record {
      known = λ k row lt. absurd (omega (arith, lt));
      ascending = λ i j cell before lt. absurd (omega (arith, lt));
      group = λ number. refl;
    })

-- what holds over the members of a warehouse, by another name
pub its_members : (w : Warehouse) (rows : DimRows) (modes : List (List ℕ)) → AreItsMembers w rows modes
    → (P : DimRows → List (List ℕ) → Type 0) → P rows modes → P w.rows (ship_modes_of w)
its_members w rows modes are P p =
    subst (λ (m : List (List ℕ)). P w.rows m) are.modes (subst (λ (r : DimRows). P r modes) are.rows p)

-- ---- the ship modes of rows

-- the ship mode of a row is one of some, and has a code
abbrev pub HasMode : List (List ℕ) → LineOrder → Type 0
HasMode modes row = IsMode modes row.shipmode

-- a text among texts is one of those of their first use
of_first_use : (texts : List (List ℕ)) (text : List ℕ) → list_any (bytes_eq text) texts ≡ true
    → length (firsts texts) ≤ most_members → IsMode (firsts texts) text
of_first_use texts text there few =
    let among : place_of (firsts texts) text < length (firsts texts) =
    place_within (bytes_eq text) (firsts texts) (list_any-firsts text texts ∙ there) in
    record { among = among; below = omega (arith, among, few) }

-- where a view of a layout groups by ship mode, the layout keeps that of each row
pub own_modes : (layout : Layout) (rows : List LineOrder) (view : View) → AreModes (kept_modes layout rows)
    → index_of view < view_count layout → view.ship_mode ≡ true → All (HasMode (kept_modes layout rows)) rows
own_modes First rows view are below grouped = absurd (omega (arith, below, ap mode_number grouped))
own_modes Second rows view are below grouped = λ k row lt.
    let text : List ℕ = (get_or rows k row).shipmode in
    let mode = λ (r : LineOrder). r.shipmode in
    of_first_use (modes_in rows) text
    (list_any_here (bytes_eq text) (modes_in rows) k row.shipmode (omega (arith, lt, length-map rows mode))
    (ap (bytes_eq text) (get_or-map mode rows k row row.shipmode lt) ∙ bytes_eq-refl text))
    are.proper.most

all_parts : {X : Type 0} (P : X → Type 0) (one other : List X) → All P (one ++ other) → All P one × All P other
all_parts P [] other all = (All-nil P, all)
all_parts P (x ∷ one) other all =
    let rest = all_parts P one other (All-tail P x (one ++ other) all) in
    (All-cons P x one (All-head P x (one ++ other) all) rest.0, rest.1)

-- what holds of all rows holds of those of a span
in_between : (P : LineOrder → Type 0) (batches : List (List LineOrder)) (from to : ℕ) → All P (all_rows batches)
    → All P (between batches from to)
in_between P batches from to all =
    let parts : all_rows batches
    ≡ (all_rows (take from (take to batches)) ++ between batches from to) ++ all_rows (drop to batches) =
    ap all_rows (sym (take-append-drop to batches)) ∙ rows_append (take to batches) (drop to batches)
    ∙ ap (λ (l : List LineOrder). l ++ all_rows (drop to batches)) (ends_with batches from to) in
    let front : List LineOrder = all_rows (take from (take to batches)) in
    (all_parts P front (between batches from to)
    (all_parts P (front ++ between batches from to) (all_rows (drop to batches)) (subst (All P) parts all)).0).1

-- ---- rows and their cells

have_members : (dimensions : DimRows) (modes : List (List ℕ)) (view : View) (rows : List LineOrder)
    → (view.ship_mode ≡ true → All (HasMode modes) rows) → All (IsKnown dimensions) rows
    → All (HasMembers dimensions modes view) rows
have_members dimensions modes view rows own known k row lt = record {
  axes = λ axis grouped. known k row lt axis;
  ship_mode = λ grouped. own grouped k row lt;
}

-- where rows have a part that passes a type, these with others before them have it too
passes_too : (dimensions : DimRows) (modes : List (List ℕ)) (view : View) (front rows : List LineOrder)
    → PassType dimensions modes view rows → PassType dimensions modes view (front ++ rows)
passes_too dimensions modes view front rows pass = record {
  before = front ++ pass.before;
  part = pass.part;
  after = pass.after;
  number = pass.number;
  cell = pass.cell;
  parts = ap (λ (l : List LineOrder). front ++ l) pass.parts
      ∙ sym (append_assoc front pass.before (pass.part ++ pass.after));
  is = pass.is;
  passes = pass.passes;
}

-- the rows of the first of some rows have no more cells
pub too_many : RowsHaveCells → MoreRowsHaveNoFewerCells
    → (dimensions : DimRows) (modes : List (List ℕ)) (view : View) (rows part rest : List LineOrder)
    → rows ≡ part ++ rest → All (HasMembers dimensions modes view) rows
    → HaveTooMany dimensions modes view part → HaveTooMany dimensions modes view rows
too_many have more dimensions modes view rows part rest parts members many =
    let all = have dimensions modes view rows members in
    let no_fewer : length many.cells ≤ length all.0 =
    more dimensions modes view [] part rest many.cells all.0 many.represent
    (subst (λ (l : List LineOrder). RepresentRows dimensions modes l (record { view = view; cells = all.0 })) parts
    all.1) in
    record { cells = all.0; represent = all.1; many = omega (arith, many.many, no_fewer) }

module _ (rows : DimRows) (modes : List (List ℕ)) (batches : List (List LineOrder)) (order : AreInOrder rows batches)
    (view : View) (own : view.ship_mode ≡ true → All (HasMode modes) (all_rows batches)) (from to : ℕ)
    (within : to ≤ length batches) where
  abbrev front : List LineOrder
  front = all_rows (take from (take to batches))

  pub members : All (HasMembers rows modes view) (between batches from to)
  members =
      have_members rows modes view (between batches from to)
      (λ grouped. in_between (HasMode modes) batches from to (own grouped))
      (known_after rows 1 front (between batches from to)
      (subst (λ (l : List LineOrder). unknown_key rows 1 l ≡ None) (ends_with batches from to)
      (foldable rows batches order to within).known))

  -- they are fit to be grouped
  pub fit : RowsInRangeFit → AreUnfit rows modes view (between batches from to) → ⊥
  fit law unfit =
      let all = foldable rows batches order to within in
      ⊎_elim (λ (none : All (HasMembers rows modes view) (between batches from to) → ⊥). none members)
      (λ (pass : PassType rows modes view (between batches from to)). law rows modes view (all_rows (take to batches))
      all.in_range all.few
      (subst (λ (l : List LineOrder). PassType rows modes view l) (sym (ends_with batches from to))
      (passes_too rows modes view front (between batches from to) pass)))
      unfit

  -- where the first of them have too many cells, all of them do
  pub too_many_then : RowsHaveCells → MoreRowsHaveNoFewerCells → (mid : ℕ) → from ≤ mid → mid ≤ to
      → HaveTooMany rows modes view (between batches from mid) → HaveTooMany rows modes view (between batches from to)
  too_many_then have more mid low high many =
      too_many have more rows modes view (between batches from to) (between batches from mid) (between batches mid to)
      (begins_with batches from mid to low high) members many

  -- where the rows of a batch more are refused, they are not unfit
  pub never_bad : RowsInRangeFit → (before : ℕ) (batch : List LineOrder) → suc before ≡ to → from ≤ before
      → slice_get batches before ≡ Some batch
      → AreUnfit rows modes view (between batches from before ++ batch) → ⊥
  never_bad law before batch next low here unfit =
      fit law (subst (λ (n : ℕ). AreUnfit rows modes view (between batches from n)) next
      (subst (λ (l : List LineOrder). AreUnfit rows modes view l) (sym (one_more batches from before batch low here))
      unfit))

  -- and where they have too many cells, all of them do
  pub many_then : RowsHaveCells → MoreRowsHaveNoFewerCells → (before : ℕ) (batch : List LineOrder) → before < to
      → from ≤ before → slice_get batches before ≡ Some batch
      → HaveTooMany rows modes view (between batches from before ++ batch)
      → HaveTooMany rows modes view (between batches from to)
  many_then have more before batch high low here many =
      too_many_then have more (suc before) (omega (arith, low)) (omega (arith, high))
      (subst (λ (l : List LineOrder). HaveTooMany rows modes view l)
      (sym (one_more batches from before batch low here)) many)

-- ==== Batches that are read of a content that is laid out as a warehouse's.

-- the batch after so many others, at the id of its number
module _ (c : Content) (w : Warehouse) (laid : IsLaidOut c w) (before id : ℕ) (placed : id ≡ 65536 + (before + 1))
    (low : before < 65535) where
  at_id : bytes_of c id ≡ option_map (segment_of (before + 1)) (slice_get w.batches before)
  at_id =
      let same : id ≡ 65537 + before = omega (arith, placed) in
      ap (λ (n : ℕ). bytes_of c n) same ∙ laid.objects (65537 + before) ∙ object_batch w before low

  module _ (batch : List LineOrder) (here : slice_get w.batches before ≡ Some batch) where
    bytes_here : bytes_of c id ≡ Some (segment_of (before + 1) batch)
    bytes_here = at_id ∙ ap (option_map (segment_of (before + 1))) here

    pub segment_here : (bytes : List ℕ) → bytes_of c id ≡ Some bytes → IsSegment bytes (before + 1) batch
    segment_here bytes at =
        let own = segment_at w.rows w.batches laid.batches before batch here in
        record {
          spelled = some_one bytes (segment_of (before + 1) batch) (sym at ∙ bytes_here);
          number_fits =
              own.number_fits;
          batch = own.batch;
          fits = own.fits;
        }

    pub is_here : bytes_of c id ≡ None → ⊥
    is_here none = let both : None ≡ Some (segment_of (before + 1) batch) = sym none ∙ bytes_here in cc

    pub same_rows : (bytes : List ℕ) (rows : List LineOrder) → bytes_of c id ≡ Some bytes
        → IsSegment bytes (before + 1) rows → rows ≡ batch
    same_rows bytes rows at segment =
        (IsSegment-one bytes (before + 1) (before + 1) rows batch segment (segment_here bytes at)).1

  pub batch_here : (bytes : List ℕ) (rows : List LineOrder) → bytes_of c id ≡ Some bytes
      → IsSegment bytes (before + 1) rows → slice_get w.batches before ≡ Some rows
  batch_here bytes rows at segment = by (slice_get w.batches before) refl
    where
      by : (o : Option (List LineOrder)) → slice_get w.batches before ≡ o → slice_get w.batches before ≡ Some rows
      by None e = let none : None ≡ Some bytes = sym (at_id ∙ ap (option_map (segment_of (before + 1))) e) ∙ at in
          absurd cc
      by (Some batch) e = e ∙ ap (λ (l : List LineOrder). Some l) (sym (same_rows batch e bytes rows at segment))

-- how many rows the root says it has
pub count_here : (batches : List (List LineOrder)) (before : ℕ) (batch : List LineOrder)
    → slice_get batches before ≡ Some batch → get_or (map length batches) before 0 ≡ length batch
count_here batches before batch here =
    get_or_from_slice_get (map length batches) before (length batch) 0
    (slice_get-map length batches before ∙ ap (option_map length) here)
