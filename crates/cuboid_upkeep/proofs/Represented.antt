-- Rows that represent cells, and the numbers of their groups.
use Rattle.std.proofs.Common.{◌≡◌, ◌∙◌, sym, ap, refl, subst, ℕ, zero, suc, ◌==◌, ◌<◌, ◌≤◌, Bool, true, false, cond}
use Rattle.std.proofs.Common.{List, [], ◌∷◌, map, length, get_or, Option, Some, None, arith, All}
use Rattle.std.specs.List.{Contains, list_all}
use Rattle.std.proofs.lemmas.Bool.Decides.{nat_tests}
use Rattle.std.proofs.lemmas.List.{get_or_default}
use Rattle.std.proofs.lemmas.List.Elements.{All-filter, All-head}
use Rattle.cube_model.specs.declared.attr.Axis.{Axis}
use Rattle.cube_model.specs.declared.attr.Axis.TheVariants.{Customer, Supplier, Part, Date}
use Rattle.cube_model.specs.declared.query.Query.{Query}
use Rattle.cube_model.specs.declared.rows.DimRows.{DimRows}
use Rattle.cube_model.specs.declared.rows.LineOrder.{LineOrder}
use Rattle.cube_model.specs.Attributes.{key_on}
use Rattle.cube_model.specs.Places.{row_count_of, row_index_of}
use Rattle.group_numbers.specs.Numbers.{IsKnown, IsGroupNumber}
use Rattle.group_numbers.specs.Parts.{given_at, given_on, holds_in}
use Rattle.group_numbers.proofs.Outcomes.{out_of_bounds}
use Rattle.lattice.specs.declared.level.Level.{Level}
use Rattle.cuboid_cells.specs.declared.cell.Cell.{Cell}
use Rattle.cuboid_cells.specs.declared.key.Key.{Key}
use Rattle.cuboid_cells.specs.Cells.{IsCellOf, IsModeCode, PlainCells, key_as_number}
use Rattle.cuboid_cells.specs.Limits.{all_code}
use Rattle.dictionary.specs.Columns.{place_of, text_of_code}
use Rattle.dictionary.proofs.CallerLemmas.{text_at_place}
use Rattle.cuboid_upkeep.specs.CellNumbers.{AreTables, AskedOfCells, IsCellNumber}
use Rattle.cuboid_upkeep.specs.Codes.{IsMode, mode_code}
use Rattle.cuboid_upkeep.specs.Grouping.{HasMembers, RepresentRows, cell_over, key_of, rows_of_number}
use Rattle.cuboid_upkeep.specs.MemberParts.{AreParts, IsOfRow, IsPartAt, given_by, member_part_by, part_in}
use Rattle.cuboid_upkeep.specs.Representatives.{AreKeysOf, MemberHasCode, HaveAllCodes, IsCodeOfMode, IsRepresentative}
use Rattle.cuboid_upkeep.specs.Representatives.{key_at, representative}
use Rattle.cuboid_upkeep.specs.declared.member_keys.MemberKeys.{MemberKeys}
use Rattle.cuboid_upkeep.specs.declared.member_parts.MemberPart.{MemberPart}
use Rattle.cuboid_upkeep.specs.declared.member_parts.MemberPart.TheVariants.{NoMember}
use Rattle.cuboid_upkeep.specs.declared.member_parts.MemberParts.{MemberParts}
use Rattle.cuboid_upkeep.proofs.Sorted.{ascending_apart, only_one}

-- ---- the rows of a cell

-- a row of each cell
pub row_of_cell : (dimensions : DimRows) (modes : List (List ℕ)) (plain : PlainCells) (rows : List LineOrder)
    (P : LineOrder → Type 0) (cell : Cell) → RepresentRows dimensions modes rows plain → All P rows
    → Contains plain.cells cell
    → (row : LineOrder) × P row × (key_of dimensions modes plain.view row ≡ cell.key)
row_of_cell dimensions modes plain rows P cell represent all in_cells =
    let number = key_as_number cell.key in
    let is : cell_over dimensions modes plain.view (rows_of_number dimensions modes plain.view number rows)
    ≡ Some cell =
    sym (represent.group number)
    ∙ only_one plain.cells cell (ascending_apart plain.cells represent.ascending) in_cells in
    first (rows_of_number dimensions modes plain.view number rows)
    (All-filter (λ row. key_as_number (key_of dimensions modes plain.view row) == number) P rows all) is
  where
    first : (own : List LineOrder) → All P own → cell_over dimensions modes plain.view own ≡ Some cell
        → (row : LineOrder) × P row × (key_of dimensions modes plain.view row ≡ cell.key)
    first [] all is = absurd (cc is)
    first (row ∷ own) all is =
        (row, All-head P row own all, (let same : key_of dimensions modes plain.view row ≡ cell.key = cc is in same))

-- a row represents each cell, where all rows that the cells represent have known keys
pub represents_among : (dimensions : DimRows) (modes : List (List ℕ)) (plain : PlainCells) (rows : List LineOrder)
    → RepresentRows dimensions modes rows plain → All (IsKnown dimensions) rows
    → (cell : Cell) → Contains plain.cells cell
    → (row : LineOrder) × IsRepresentative dimensions modes plain.view cell row
represents_among dimensions modes plain rows represent known cell there =
    let own = row_of_cell dimensions modes plain rows
    (λ row. IsKnown dimensions row × HasMembers dimensions modes plain.view row) cell represent
    (λ place default within. (known place default within, represent.known place default within)) there in
    (own.0, record { known = own.1.0; ship_mode = own.1.1.ship_mode; key_is = own.2 })

-- ---- no row represents a cell with a code of no member

-- where a row represents a cell, its fifth code is that of a mode
pub mode_of_cell : (asked : AskedOfCells) (cell : Cell) (row : LineOrder)
    → IsRepresentative asked.dimensions asked.modes asked.view cell row
    → asked.view.ship_mode ≡ true → IsCodeOfMode asked.modes cell.key.ship_mode
mode_of_cell asked cell row represents grouped =
    let modes = asked.modes in
    let text : List ℕ = row.shipmode in
    let mode = represents.ship_mode grouped in
    let code : place_of modes text ≡ cell.key.ship_mode = ap (λ (g : Bool). mode_code g modes text) (sym grouped)
    ∙ ap (λ (k : Key). k.ship_mode) represents.key_is in
    let there : text_of_code modes (place_of modes text) ≡ text = text_at_place modes text mode.among in
    record {
      among = omega (arith, mode.among, code);
      again = ap (λ (n : ℕ). place_of modes (text_of_code modes n)) (sym code) ∙ ap (place_of modes) there ∙ code;
      below = omega (arith, mode.below, code);
    }

module _ (dimensions : DimRows) (query : Query) (axis : Axis) (level : Level) (parts : MemberParts)
    (are : AreParts dimensions query axis level parts) (code : ℕ) where
  -- where nothing is at a code, no row has a member of the code
  pub no_member : part_in parts code ≡ None → (key : ℕ) → MemberHasCode dimensions axis level key code → ⊥
  no_member none = subst (IsPartAt dimensions query axis level code) none (are code)

  a_member : (part : Option ℕ) → part_in parts code ≡ Some part
      → (key : ℕ) × MemberHasCode dimensions axis level key code
      × (part ≡ given_at dimensions query axis (row_index_of dimensions axis key))
  a_member part some = subst (IsPartAt dimensions query axis level code) some (are code)

-- a row that represents a cell has its codes
module _ (asked : AskedOfCells) (cell : Cell) (row : LineOrder)
    (represents : IsRepresentative asked.dimensions asked.modes asked.view cell row) where
  pub customer_code : MemberHasCode asked.dimensions Customer asked.view.customer row.custkey cell.key.customer
  customer_code = record { known = represents.known Customer; code_is = ap (λ (k : Key). k.customer) represents.key_is }

  pub supplier_code : MemberHasCode asked.dimensions Supplier asked.view.supplier row.suppkey cell.key.supplier
  supplier_code = record { known = represents.known Supplier; code_is = ap (λ (k : Key). k.supplier) represents.key_is }

  pub part_code : MemberHasCode asked.dimensions Part asked.view.part row.partkey cell.key.part
  part_code = record { known = represents.known Part; code_is = ap (λ (k : Key). k.part) represents.key_is }

  pub date_code : MemberHasCode asked.dimensions Date asked.view.date row.orderdate cell.key.date
  date_code = record { known = represents.known Date; code_is = ap (λ (k : Key). k.date) represents.key_is }

-- ---- a row that represents a cell

-- the fifth code is that of the ship mode
fifth_is : (grouped : Bool) (modes : List (List ℕ)) (code : ℕ) → IsModeCode grouped code
    → (grouped ≡ true → IsCodeOfMode modes code) → mode_code grouped modes (text_of_code modes code) ≡ code
fifth_is false modes code own there = sym (own.1 refl)
fifth_is true modes code own there = (there refl).again

mode_is : (modes : List (List ℕ)) (code : ℕ) → IsCodeOfMode modes code → IsMode modes (text_of_code modes code)
mode_is modes code is = record { among = omega (arith, is.among, is.again); below = omega (arith, is.below, is.again) }

module _ (asked : AskedOfCells) (within : Bool) (customers suppliers parts dates : MemberParts)
    (tables : AreTables asked within customers suppliers parts dates)
    (cell : Cell) (of_view : IsCellOf asked.view cell) (there : asked.view.ship_mode ≡ true
    → IsCodeOfMode asked.modes cell.key.ship_mode)
    (customer supplier part date : Option ℕ) (first : part_in customers cell.key.customer ≡ Some customer)
    (second : part_in suppliers cell.key.supplier ≡ Some supplier)
    (third : part_in parts cell.key.part ≡ Some part) (fourth : part_in dates cell.key.date ≡ Some date) where
  abbrev dims : DimRows
  dims = asked.dimensions

  c : (key : ℕ) × MemberHasCode dims Customer asked.view.customer key cell.key.customer
      × (customer ≡ given_at dims asked.query Customer (row_index_of dims Customer key))
  c = a_member dims asked.query Customer asked.view.customer customers tables.by_customer cell.key.customer customer
      first

  s : (key : ℕ) × MemberHasCode dims Supplier asked.view.supplier key cell.key.supplier
      × (supplier ≡ given_at dims asked.query Supplier (row_index_of dims Supplier key))
  s = a_member dims asked.query Supplier asked.view.supplier suppliers tables.by_supplier cell.key.supplier supplier
      second

  p : (key : ℕ) × MemberHasCode dims Part asked.view.part key cell.key.part
      × (part ≡ given_at dims asked.query Part (row_index_of dims Part key))
  p = a_member dims asked.query Part asked.view.part parts tables.by_part cell.key.part part third

  d : (key : ℕ) × MemberHasCode dims Date asked.view.date key cell.key.date
      × (date ≡ given_at dims asked.query Date (row_index_of dims Date key))
  d = a_member dims asked.query Date asked.view.date dates tables.by_date cell.key.date date fourth

  abbrev own : LineOrder
  own = representative asked.modes c.0 s.0 p.0 d.0 cell.key.ship_mode

  known_on : (axis : Axis) → row_index_of dims axis (key_on axis own) < row_count_of dims axis
  known_on Customer = c.1.known
  known_on Supplier = s.1.known
  known_on Part = p.1.known
  known_on Date = d.1.known

  own_represents : IsRepresentative dims asked.modes asked.view cell own
  own_represents =
      let fifth = fifth_is asked.view.ship_mode asked.modes cell.key.ship_mode of_view.key.ship_mode there in
      record {
        known = known_on;
        ship_mode = λ is. mode_is asked.modes cell.key.ship_mode (there is);
        key_is = λ i. record {
          customer = c.1.code_is i;
          supplier = s.1.code_is i;
          part = p.1.code_is i;
          date = d.1.code_is i;
          ship_mode = fifth i;
        };
      }

  -- where rows of zeros fail a condition, no row of the cell is selected
  pub none_selected : within ≡ false → IsCellNumber asked cell None
  none_selected off = record {
    row = own;
    represents = own_represents;
    number_is = out_of_bounds dims asked.query own (tables.noughts own refl refl ∙ off);
  }

  pub cell_number : (number : Option ℕ) → within ≡ true
      → ((row : LineOrder) → IsKnown dims row → list_all (holds_in row) asked.query.conditions ≡ true
      → given_on dims asked.query row Customer ≡ customer → given_on dims asked.query row Supplier ≡ supplier
      → given_on dims asked.query row Part ≡ part → given_on dims asked.query row Date ≡ date
      → IsGroupNumber dims asked.query row number)
      → IsCellNumber asked cell number
  cell_number number on by = record {
    row = own;
    represents = own_represents;
    number_is = by own known_on (tables.noughts own refl refl ∙ on) (sym c.2) (sym s.2) (sym p.2) (sym d.2);
  }

-- ---- the parts of members, one after another
pub parts_after : (dimensions : DimRows) (query : Query) (axis : Axis) (level : Level) (keys : MemberKeys)
    (parts : MemberParts) → AreKeysOf dimensions axis level keys → HaveAllCodes dimensions axis level keys
    → given_by parts.every ≡ member_part_by dimensions query axis keys.every
    → map given_by parts.members.items ≡ map (member_part_by dimensions query axis) keys.members.items
    → AreParts dimensions query axis level parts
parts_after dimensions query axis level keys parts sound whole every members code =
    subst (IsPartAt dimensions query axis level code) (sym here)
    (at (key_at keys code) (sound code) (λ key has. whole key code has))
  where
    at_place : (list : List (Option ℕ)) (place : ℕ)
        → get_or (map (member_part_by dimensions query axis) list) place None
        ≡ member_part_by dimensions query axis (get_or list place None)
    at_place [] place = refl
    at_place (first ∷ list) zero = refl
    at_place (first ∷ list) (suc place) = at_place list place

    given_at_place : (list : List MemberPart) (place : ℕ)
        → get_or (map given_by list) place None ≡ given_by (get_or list place NoMember)
    given_at_place [] place = refl
    given_at_place (first ∷ list) zero = refl
    given_at_place (first ∷ list) (suc place) = given_at_place list place

    here : part_in parts code ≡ member_part_by dimensions query axis (key_at keys code)
    here = elim (code == all_code) as
        (λ b. given_by (cond b parts.every (get_or parts.members.items code NoMember))
        ≡ member_part_by dimensions query axis (cond b keys.every (get_or keys.members.items code None))) [
          | true ↦ every
          | false ↦ sym (given_at_place parts.members.items code)
              ∙ ap (λ (all : List (Option (Option ℕ))). get_or all code None) members ∙ at_place keys.members.items code
        ]

    at : (key : Option ℕ) → ((own : ℕ) → key ≡ Some own → MemberHasCode dimensions axis level own code)
        → ((own : ℕ) → MemberHasCode dimensions axis level own code → key ≡ None → ⊥)
        → IsPartAt dimensions query axis level code (member_part_by dimensions query axis key)
    at None sound whole = λ own has. whole own has refl
    at (Some own) sound whole = (own, sound own refl, refl)

-- each key is that of a row
pub keys_known : (dimensions : DimRows) (axis : Axis) (level : Level) (keys : MemberKeys)
    → AreKeysOf dimensions axis level keys → length keys.members.items ≤ all_code
    → All (IsOfRow dimensions axis) keys.members.items
keys_known dimensions axis level keys sound few = λ place default within.
    (let less : place < all_code = omega (arith, few, within) in
    let apart : (place == all_code) ≡ false = grind (arith, nat_tests) in
    let none : get_or keys.members.items place default ≡ get_or keys.members.items place None =
    get_or_default keys.members.items place default None within in
    some (get_or keys.members.items place default)
    (λ own is. (sound place own (ap (λ (b : Bool). cond b keys.every (get_or keys.members.items place None)) apart
    ∙ (sym none ∙ is))).known))
  where
    some : (key : Option ℕ)
        → ((own : ℕ) → key ≡ Some own → row_index_of dimensions axis own < row_count_of dimensions axis)
        → IsOfRow dimensions axis key
    some None is = tt
    some (Some own) is = is own refl

pub every_known : (dimensions : DimRows) (axis : Axis) (level : Level) (keys : MemberKeys)
    → AreKeysOf dimensions axis level keys → IsOfRow dimensions axis keys.every
every_known dimensions axis level keys sound = some keys.every (λ own is. (sound all_code own is).known)
  where
    some : (key : Option ℕ)
        → ((own : ℕ) → key ≡ Some own → row_index_of dimensions axis own < row_count_of dimensions axis)
        → IsOfRow dimensions axis key
    some None is = tt
    some (Some own) is = is own refl
