-- Lemmas of `table`, by subject.
use Rattle.std.proofs.Common.{◌≡◌, ◌∙◌, sym, ap, refl, inl, inr, ℕ, ◌==◌, false, List, [], ◌∷◌, length, get_or, Some}
use Rattle.std.proofs.Common.{subst, ◌+◌, ◌*◌, ◌<◌, ◌++◌, take, All, append_assoc, append-nil, arith}
use Rattle.std.specs.List.{filter}
use Rattle.cube_model.specs.declared.attr.Axis.TheVariants.{Customer, Supplier, Part, Date}
use Rattle.cube_model.specs.declared.rows.DimRows.{DimRows}
use Rattle.cube_model.specs.declared.rows.LineOrder.{LineOrder}
use Rattle.lattice.specs.declared.view.View.{View}
use Rattle.cuboid_cells.specs.declared.cell.Cell.{Cell}
use Rattle.cuboid_cells.specs.Cells.{key_as_number, CellFits, KeyFits, cell_at}
use Rattle.cuboid_upkeep.specs.Codes.{mode_code}
use Rattle.cuboid_upkeep.specs.Grouping.{HasMembers, RepresentRows, cell_over, code_on, key_of, rows_of_number}
use Rattle.cuboid_upkeep.specs.Grouping.{summaries_over}
use Rattle.cuboid_upkeep.specs.Steps.{AreUnfit, IsAddFault, IsCellOfRow, IsRowKey}
use Rattle.cuboid_upkeep.proofs.Members.{no_mode}
use Rattle.std.proofs.lemmas.List.Elements.{All-cons, All-nil}
use Rattle.cube_model.specs.declared.fault.Fault.TheVariants.{BadLayout}
use Rattle.group_numbers.specs.Rows.{row_at}
use Rattle.cuboid_cells.specs.declared.key.Key.{Key}
use Rattle.cuboid_cells.specs.Merges.{PassesType}
use Rattle.cuboid_upkeep.proofs.Added.{both_represent, merge_refused}
use Rattle.cuboid_upkeep.proofs.Existing.{ascends}
use Rattle.cuboid_upkeep.specs.declared.member_codes.ViewMembers.{ViewMembers}
use Rattle.cuboid_upkeep.specs.Keys.{IsKeyOfRow, IsNumberOfRow}
use Rattle.cuboid_upkeep.specs.Numbers.{LiesIn, key_place}
use Rattle.cuboid_upkeep.specs.Slots.{SlotsHaveCells, HasNumber, IsTaken, PassesAt, TakesAt, cells_in, used}
use Rattle.cuboid_upkeep.proofs.Ascending.{keys_follow}
use Rattle.cuboid_upkeep.proofs.Rows.{all_unfit, key_by, one_row_more, row_alone}
use Rattle.cuboid_upkeep.proofs.Sorted.{found_in}
use Rattle.cuboid_upkeep.proofs.Slots.{merge_then, past_is, past_key, slots_then, used_good}

-- ==== A view that does not group by ship mode: what holds of fact rows over some modes holds over any others.

members_alike : (dimensions : DimRows) (view : View) → view.ship_mode ≡ false → (modes others : List (List ℕ))
    (row : LineOrder) → HasMembers dimensions modes view row → HasMembers dimensions others view row
members_alike dimensions view none modes others row has = record {
  axes = has.axes;
  ship_mode = λ grouped. absurd (cc (grouped, none));
}

module _ (dimensions : DimRows) (view : View) (none : view.ship_mode ≡ false) (modes others : List (List ℕ)) where
  key_alike : (row : LineOrder) → key_of dimensions modes view row ≡ key_of dimensions others view row
  key_alike row =
      let mode : mode_code view.ship_mode modes row.shipmode ≡ mode_code view.ship_mode others row.shipmode =
      sym (no_mode view.ship_mode modes row.shipmode none) ∙ no_mode view.ship_mode others row.shipmode none in
      λ i. record {
        customer = code_on dimensions Customer view.customer row;
        supplier = code_on dimensions Supplier view.supplier row;
        part = code_on dimensions Part view.part row;
        date = code_on dimensions Date view.date row;
        ship_mode = mode i;
      }

  rows_alike : (number : ℕ) (rows : List LineOrder)
      → rows_of_number dimensions modes view number rows ≡ rows_of_number dimensions others view number rows
  rows_alike number rows = λ i. filter (λ row. key_as_number (key_alike row i) == number) rows

  cell_alike : (rows : List LineOrder) → cell_over dimensions modes view rows ≡ cell_over dimensions others view rows
  cell_alike [] = refl
  cell_alike (row ∷ rows) = λ i. Some (record {
    key = key_alike row i;
    count = length (row ∷ rows);
    measures = summaries_over (row ∷ rows);
  })

  over_alike : (number : ℕ) (rows : List LineOrder)
      → cell_over dimensions modes view (rows_of_number dimensions modes view number rows)
      ≡ cell_over dimensions others view (rows_of_number dimensions others view number rows)
  over_alike number rows = ap (cell_over dimensions modes view) (rows_alike number rows)
      ∙ cell_alike (rows_of_number dimensions others view number rows)

  pub represent_alike : (rows : List LineOrder) (cells : List Cell)
      → RepresentRows dimensions modes rows (record { view = view; cells = cells })
      → RepresentRows dimensions others rows (record { view = view; cells = cells })
  represent_alike rows cells represent = record {
    known = λ place default within. members_alike dimensions view none modes others (get_or rows place default)
        (represent.known place default within);
    ascending = represent.ascending;
    group = λ number. represent.group number ∙ over_alike number rows;
  }

  pub unfit_alike : (rows : List LineOrder) → AreUnfit dimensions modes view rows
      → AreUnfit dimensions others view rows
  unfit_alike rows (inl lack) = inl (λ all. lack (λ place default within.
      members_alike dimensions view none others modes (get_or rows place default) (all place default within)))
  unfit_alike rows (inr past) = inr (record {
    before = past.before;
    part = past.part;
    after = past.after;
    number = past.number;
    cell = past.cell;
    parts = past.parts;
    is = sym (over_alike past.number past.part) ∙ past.is;
    passes = past.passes;
  })

-- ==== Fact rows are taken in, one after another.

-- no row yet
pub none_taken : (dimensions : DimRows) (view : View) (members : ViewMembers) (rows : List LineOrder)
    (slots : List Cell) → SlotsHaveCells view members 0 slots → IsTaken dimensions view members rows 0 slots slots
none_taken dimensions view members rows slots are = record {
  size = refl;
  slots = are;
  represent = λ so_far represent. subst (λ (l : List LineOrder). RepresentRows dimensions [] l (cells_in view slots))
      (sym (append-nil so_far)) represent;
}

-- what the cell of a row is, whatever the dimensions of its key are
abbrev pub IsRowCell : LineOrder → Key → Cell → Type 0
IsRowCell row key cell = (dimensions : DimRows) (modes : List (List ℕ)) (view : View)
    → IsRowKey dimensions modes view row key → IsCellOfRow dimensions modes view row cell

-- it has the key
key_is : (dimensions : DimRows) (view : View) (row : LineOrder) (key : Key) (cell : Cell)
    → IsRowKey dimensions [] view row key → IsCellOfRow dimensions [] view row cell → cell.key ≡ key
key_is dimensions view row key cell own is =
    let made : Cell = record { key = key_of dimensions [] view row; count = 1; measures = summaries_over (row ∷ []) } in
    let same : made ≡ cell = cc is.is in
    ap (λ (c : Cell). c.key) (sym same) ∙ sym own.is

-- the number of a row is that of its key
pub number_of_key : (dimensions : DimRows) (view : View) (members : ViewMembers) (row : LineOrder) (key : Key)
    (number : ℕ)
    → IsKeyOfRow dimensions [] view members row key → IsNumberOfRow dimensions view members row number
    → key_place members key ≡ number
number_of_key dimensions view members row key number own fact = ap (key_place members) (own.is.is ∙ sym fact.own.is.is)
    ∙ sym fact.is

module _ (dimensions : DimRows) (view : View) (members : ViewMembers) (no_modes : view.ship_mode ≡ false)
    (rows : List LineOrder) (place : ℕ) (within : place < length rows) (key : Key) (cell : Cell)
    (own : IsKeyOfRow dimensions [] view members (row_at rows place) key)
    (cell_is : IsRowCell (row_at rows place) key cell) where
  abbrev row : LineOrder
  row = row_at rows place

  there : HasNumber view members (key_place members key) cell
  there =
      let is = cell_is dimensions [] view own.is in
      let same = key_is dimensions view row key cell own.is is in record {
        lies = subst (LiesIn members) (sym same) own.lies;
        place_is = ap (key_place members) same;
        good = is.good;
      }

  alone : RepresentRows dimensions [] (row ∷ []) (record { view = view; cells = cell ∷ [] })
  alone =
      let is = cell_is dimensions [] view own.is in record {
        known = All-cons (HasMembers dimensions [] view) row [] is.members (All-nil (HasMembers dimensions [] view));
        ascending = ascends 0 (cell ∷ []) (omega arith, tt);
        group = row_alone dimensions [] view row cell is;
      }

  module _ (old now : List Cell) (so_far : IsTaken dimensions view members rows place old now)
      (low : key_place members key < length now) where
    pub one_taken : (next : List Cell) → length next ≡ length now → TakesAt now (key_place members key) cell next
        → IsTaken dimensions view members rows (place + 1) old next
    one_taken next many takes = record {
      size = many ∙ so_far.size;
      slots = slots_then view members no_modes now (key_place members key) cell next so_far.slots low there takes;
      represent = λ front represent.
          subst (λ (l : List LineOrder). RepresentRows dimensions [] l (cells_in view next))
          (append_assoc front (take place rows) (row ∷ [])
          ∙ ap (λ (l : List LineOrder). front ++ l) (sym (one_row_more dimensions [] view rows place within)))
          (both_represent dimensions [] (front ++ take place rows) (row ∷ []) (cells_in view now)
          (record { view = view; cells = cell ∷ [] }) (cells_in view next) refl
          (so_far.represent front represent) alone
          (merge_then view members no_modes now (key_place members key) cell next so_far.slots low there takes));
    }

    -- the cell passes a type
    pub one_passes : PassesAt now (key_place members key) cell → (front : List LineOrder)
        → RepresentRows dimensions [] front (cells_in view old) → AreUnfit dimensions [] view (front ++ rows)
    one_passes past front represent =
        let first = so_far.represent front represent in
        let number : ℕ = key_as_number cell.key in
        let before : cell_at number (used now) ≡ Some past.slot =
        past_is view members no_modes now (key_place members key) cell so_far.slots low there past in
        let passes : PassesType (used now) (cell ∷ []) = record {
          left = past.slot;
          right = cell;
          in_one = found_in number (used now) past.slot before;
          in_other = (0, omega arith, refl);
          key = past_key view members no_modes now (key_place members key) cell so_far.slots low there past;
          passes = past.passes;
        } in
        let fit : All CellFits (used now) =
        λ k d in_used. (used_good view members no_modes 0 now so_far.slots k d in_used).fits in
        all_unfit dimensions [] view rows place within front
        (unfit_of (merge_refused dimensions [] view (front ++ take place rows) (row ∷ []) (used now) (cell ∷ []) fit
        first alone BadLayout (inr (inl (refl, passes)))))
      where
        unfit_of : {rest : List LineOrder} → IsAddFault dimensions [] view rest BadLayout
            → AreUnfit dimensions [] view rest
        unfit_of (inl memory) = absurd (cc memory)
        unfit_of (inr (inl bad)) = bad.1
        unfit_of (inr (inr many)) = absurd (cc many.0)

-- two keys of a view of one number are the same
digits_are : (a b c d : ℕ) → b < 65536 → d < 65536 → a * 65536 + b ≡ c * 65536 + d → (a ≡ c) × (b ≡ d)
digits_are a b c d one other same = (omega (arith, one, other, same), omega (arith, one, other, same))

key_by_number : (one other : Key) → KeyFits one → KeyFits other → key_as_number one ≡ key_as_number other → one ≡ other
key_by_number one other fits fit same =
    let fifth = digits_are (((one.customer * 65536 + one.supplier) * 65536 + one.part) * 65536 + one.date) one.ship_mode
    (((other.customer * 65536 + other.supplier) * 65536 + other.part) * 65536 + other.date) other.ship_mode
    fits.ship_mode fit.ship_mode same in
    let fourth =
    digits_are ((one.customer * 65536 + one.supplier) * 65536 + one.part) one.date
    ((other.customer * 65536 + other.supplier) * 65536 + other.part) other.date fits.date fit.date fifth.0 in
    let third = digits_are (one.customer * 65536 + one.supplier) one.part (other.customer * 65536 + other.supplier)
    other.part fits.part fit.part fourth.0 in
    let second = digits_are one.customer one.supplier other.customer other.supplier fits.supplier fit.supplier
    third.0 in
    key_by one.customer one.supplier one.part one.date one.ship_mode other second.0 second.1 third.1 fourth.1 fifth.1

-- the key of the slot that a row's number has is the row's
pub key_there : (dimensions : DimRows) (view : View) (members : ViewMembers) → view.ship_mode ≡ false
    → (row : LineOrder) (number : ℕ) (slot : Cell)
    → IsNumberOfRow dimensions view members row number → HasNumber view members number slot
    → IsKeyOfRow dimensions [] view members row slot.key
key_there dimensions view members no_modes row number slot fact at =
    let own = fact.own in
    let modes : fact.key.ship_mode ≡ slot.key.ship_mode = own.is.of.ship_mode.1 no_modes
    ∙ sym (at.good.is_cell.key.ship_mode.1 no_modes) in
    let alike : key_as_number fact.key ≡ key_as_number slot.key =
    (keys_follow view members fact.key slot.key own.is.of at.good.is_cell.key own.is.fits at.good.fits.key own.lies
    at.lies modes).1 (sym fact.is ∙ sym at.place_is) in
    subst (IsKeyOfRow dimensions [] view members row)
    (key_by_number fact.key slot.key own.is.fits at.good.fits.key alike)
    own
