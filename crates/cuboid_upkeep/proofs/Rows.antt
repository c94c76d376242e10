-- One fact row among others.
use Rattle.std.proofs.Common.{◌≡◌, ◌∙◌, inl, inr, sym, ap, refl, subst, ℕ, ◌==◌, ◌<◌, ◌+◌, Bool, true, false, cond}
use Rattle.std.proofs.Common.{List, [], ◌∷◌, ◌++◌, length, take, drop, Some, None, All, append_assoc, true}
use Rattle.std.proofs.lemmas.List.{take_more, take-append-drop}
use Rattle.std.proofs.lemmas.List.Elements.{All-tail, All-head, All-cons, All-nil}
use Rattle.cube_model.specs.declared.attr.Axis.{Axis}
use Rattle.cube_model.specs.declared.attr.Axis.TheVariants.{Customer, Supplier, Part, Date}
use Rattle.cube_model.specs.declared.rows.DimRows.{DimRows}
use Rattle.cube_model.specs.declared.rows.LineOrder.{LineOrder}
use Rattle.group_numbers.specs.Numbers.{IsKnownOn}
use Rattle.group_numbers.specs.Rows.{no_row, row_at}
use Rattle.lattice.specs.declared.level.Level.TheVariants as level
use Rattle.lattice.specs.declared.view.View.{View}
use Rattle.lattice.specs.Views.{level_on}
use Rattle.cuboid_cells.specs.declared.cell.Cell.{Cell}
use Rattle.cuboid_cells.specs.declared.key.Key.{Key}
use Rattle.cuboid_cells.specs.Cells.{IsModeCode, KeyFits, key_as_number}
use Rattle.cuboid_upkeep.specs.Codes.{IsMode, mode_code}
use Rattle.cuboid_upkeep.specs.Grouping.{Group, HasMembers, cell_over, key_of, summaries_over}
use Rattle.cuboid_upkeep.specs.Keys.{IsAxisCode}
use Rattle.cuboid_upkeep.specs.Steps.{AreUnfit, HasNoCell, IsCellOfRow, IsRowKey}
use Rattle.cuboid_upkeep.proofs.Added.{unfit_after}
use Rattle.cuboid_upkeep.proofs.Found.{own_key}

abbrev pub key_with : ℕ → ℕ → ℕ → ℕ → ℕ → Key
key_with customer supplier part date ship_mode =
    record { customer = customer; supplier = supplier; part = part; date = date; ship_mode = ship_mode }

-- a key by its codes
pub key_by : (customer supplier part date ship_mode : ℕ) (key : Key) → customer ≡ key.customer → supplier ≡ key.supplier
    → part ≡ key.part → date ≡ key.date → ship_mode ≡ key.ship_mode
    → key_with customer supplier part date ship_mode ≡ key
key_by customer supplier part date ship_mode key one two three four five =
    ap (λ n. key_with n supplier part date ship_mode) one ∙ ap (λ n. key_with key.customer n part date ship_mode) two
    ∙ ap (λ n. key_with key.customer key.supplier n date ship_mode) three
    ∙ ap (λ n. key_with key.customer key.supplier key.part n ship_mode) four
    ∙ ap (λ n. key_with key.customer key.supplier key.part key.date n) five

-- the key of a row by its codes
module _ (dimensions : DimRows) (modes : List (List ℕ)) (view : View) (row : LineOrder) (key : Key)
    (customer : IsAxisCode dimensions Customer view.customer row key.customer)
    (supplier : IsAxisCode dimensions Supplier view.supplier row key.supplier)
    (part : IsAxisCode dimensions Part view.part row key.part)
    (date : IsAxisCode dimensions Date view.date row key.date) where
  known_on : (axis : Axis) → (level_on axis view ≡ level.All → ⊥) → IsKnownOn dimensions row axis
  known_on Customer apart = customer.known apart
  known_on Supplier apart = supplier.known apart
  known_on Part apart = part.known apart
  known_on Date apart = date.known apart

  pub is_row_key : key.ship_mode ≡ mode_code view.ship_mode modes row.shipmode → IsModeCode view.ship_mode key.ship_mode
      → (view.ship_mode ≡ true → IsMode modes row.shipmode)
      → KeyFits key → IsRowKey dimensions modes view row key
  is_row_key is of known fits = record {
    is = key_by key.customer key.supplier key.part key.date key.ship_mode (key_of dimensions modes view row) customer.is
        supplier.is part.is date.is is;
    of = record { customer = customer.at; supplier = supplier.at; part = part.at; date = date.at; ship_mode = of };
    fits = fits;
    members = record { axes = known_on; ship_mode = known };
  }

-- the cell of one row
module _ (dimensions : DimRows) (modes : List (List ℕ)) (view : View) where
  abbrev of_row : LineOrder → Cell
  of_row row = record { key = key_of dimensions modes view row; count = 1; measures = summaries_over (row ∷ []) }

  one_if : (row : LineOrder) (b : Bool)
      → cond b (Some (of_row row)) None ≡ cell_over dimensions modes view (cond b (row ∷ []) [])
  one_if row true = refl
  one_if row false = refl

  pub row_alone : (row : LineOrder) (cell : Cell) → IsCellOfRow dimensions modes view row cell
      → Group dimensions modes view (row ∷ []) (cell ∷ [])
  row_alone row cell is =
      let same : of_row row ≡ cell = cc is.is in
      subst (λ (c : Cell). Group dimensions modes view (row ∷ []) (c ∷ [])) same
      (λ number. one_if row (key_as_number (key_of dimensions modes view row) == number))

  -- what unfit rows make of all
  all_before : (rows others : List LineOrder) → All (HasMembers dimensions modes view) (rows ++ others)
      → All (HasMembers dimensions modes view) rows
  all_before [] others all = All-nil (HasMembers dimensions modes view)
  all_before (row ∷ rows) others all =
      All-cons (HasMembers dimensions modes view) row rows
      (All-head (HasMembers dimensions modes view) row (rows ++ others) all)
      (all_before rows others (All-tail (HasMembers dimensions modes view) row (rows ++ others) all))

  pub unfit_before : (rows rest : List LineOrder) → AreUnfit dimensions modes view rows
      → AreUnfit dimensions modes view (rows ++ rest)
  unfit_before rows rest (inl none) = inl (λ all. none (all_before rows rest all))
  unfit_before rows rest (inr past) = inr (record {
    before = past.before;
    part = past.part;
    after = past.after ++ rest;
    number = past.number;
    cell = past.cell;
    parts =
        ap (λ (l : List LineOrder). l ++ rest) past.parts ∙ append_assoc past.before (past.part ++ past.after) rest
        ∙ ap (λ (l : List LineOrder). past.before ++ l) (append_assoc past.part past.after rest);
    is = past.is;
    passes = past.passes;
  })

  -- a row that has no cell
  pub alone_unfit : (row : LineOrder) → HasNoCell dimensions modes view row → AreUnfit dimensions modes view (row ∷ [])
  alone_unfit row (inl none) = inl (λ all. none (All-head (HasMembers dimensions modes view) row [] all))
  alone_unfit row (inr past) = inr (record {
    before = [];
    part = row ∷ [];
    after = [];
    number = key_as_number (key_of dimensions modes view row);
    cell = past.0;
    parts = refl;
    is =
        ap (λ (b : Bool). cell_over dimensions modes view (cond b (row ∷ []) []))
        (own_key (key_as_number (key_of dimensions modes view row)) (key_as_number (key_of dimensions modes view row))
        refl)
        ∙ past.1;
    passes = past.2;
  })

  -- rows with some before a place that are unfit, or with one more
  module _ (rows : List LineOrder) (place : ℕ) (within : place < length rows) where
    pub one_row_more : take (place + 1) rows ≡ take place rows ++ row_at rows place ∷ []
    one_row_more = take_more rows place no_row within

    pub whole : (take place rows ++ row_at rows place ∷ []) ++ drop (place + 1) rows ≡ rows
    whole = ap (λ (l : List LineOrder). l ++ drop (place + 1) rows) (sym one_row_more)
        ∙ take-append-drop (place + 1) rows

    pub all_unfit : (front : List LineOrder)
        → AreUnfit dimensions modes view ((front ++ take place rows) ++ row_at rows place ∷ [])
        → AreUnfit dimensions modes view (front ++ rows)
    all_unfit front unfit =
        subst (AreUnfit dimensions modes view)
        (ap (λ (l : List LineOrder). l ++ drop (place + 1) rows)
        (append_assoc front (take place rows) (row_at rows place ∷ []))
        ∙ append_assoc front (take place rows ++ row_at rows place ∷ []) (drop (place + 1) rows)
        ∙ ap (λ (l : List LineOrder). front ++ l) whole)
        (unfit_before ((front ++ take place rows) ++ row_at rows place ∷ []) (drop (place + 1) rows) unfit)

    pub none_fits : (front : List LineOrder) → HasNoCell dimensions modes view (row_at rows place)
        → AreUnfit dimensions modes view (front ++ rows)
    none_fits front why =
        all_unfit front
        (unfit_after dimensions modes view (front ++ take place rows) (row_at rows place ∷ [])
        (alone_unfit (row_at rows place) why))
