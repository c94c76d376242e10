-- Cells that need not be looked at, by a code of theirs.
use Rattle.std.proofs.Common.{◌≡◌, ◌∙◌, inl, inr, ◌^◌, sym, ap, refl, subst, arith, ℕ, ◌+◌, ◌-◌, ◌*◌, ◌/◌, ◌<◌, ◌≤◌}
use Rattle.std.proofs.Common.{Bool, true, false, ◌&&◌, Option, Some, None, cond, ◌==◌, length, get_or}
use Rattle.std.specs.List.{list_all}
use Rattle.std.proofs.Math.ListN.{get_or-eq_default}
use Rattle.std.specs.Prelude.{IfSome}
use Rattle.std.proofs.lemmas.Bool.{cases_lt}
use Rattle.std.proofs.lemmas.Bool.Decides.{nat_tests}
use Rattle.std.proofs.Math.Nat.{div-mul-le_self, lt_of_mul-lt-mul_right}
use Rattle.cube_model.specs.declared.attr.Axis.{Axis}
use Rattle.cube_model.specs.declared.attr.Axis.TheVariants.{Customer, Supplier, Part, Date}
use Rattle.cube_model.specs.declared.query.Query.{Query}
use Rattle.cube_model.specs.declared.rows.DimRows.{DimRows}
use Rattle.cube_model.specs.declared.rows.LineOrder.{LineOrder}
use Rattle.cube_model.specs.Places.{row_count_of, row_index_of}
use Rattle.cube_model.specs.Selection.{is_selected}
use Rattle.group_numbers.specs.Numbers.{IsKnownOn}
use Rattle.group_numbers.specs.Parts.{given_at, given_on, holds_in}
use Rattle.group_numbers.proofs.Outcomes.{given_none}
use Rattle.group_numbers.proofs.Split.{all_five, passes_at, place_on, selected_by_places}
use Rattle.lattice.specs.declared.level.Level.{Level}
use Rattle.lattice.specs.declared.level.Level.TheVariants as level
use Rattle.lattice.specs.Views.{level_on}
use Rattle.cuboid_cells.specs.declared.cell.Cell.{Cell}
use Rattle.cuboid_cells.specs.declared.key.Key.{Key}
use Rattle.cuboid_cells.specs.Cells.{IsCellOf, IsCodeAt, KeyFits, key_as_number}
use Rattle.cuboid_cells.specs.Limits.{all_code}
use Rattle.lattice.specs.declared.view.View.{View}
use Rattle.cuboid_upkeep.specs.CellNumbers.{AskedOfCells, HasUnselected}
use Rattle.cuboid_upkeep.specs.Codes.{mode_code}
use Rattle.cuboid_upkeep.specs.Grouping.{HasMembers, code_on, key_of}
use Rattle.cuboid_upkeep.specs.MemberParts.{AreParts, AreUnselected, IsPartAt, IsUnselected, given_by, part_in}
use Rattle.cuboid_upkeep.specs.Representatives.{MemberHasCode}
use Rattle.cuboid_upkeep.specs.declared.member_parts.MemberPart.TheVariants.{NoMember}
use Rattle.cuboid_upkeep.specs.declared.member_parts.MemberParts.{MemberParts}

-- ---- a row that fails a condition on an axis
off : (axis : Axis) (n : Bool) (at : Axis → Bool) → at axis ≡ false
    → all_five n (at Customer) (at Supplier) (at Part) (at Date) ≡ false
off axis false at none = refl
off Customer true at none = ap (λ (b : Bool). b && (at Supplier && (at Part && at Date))) none
off Supplier true at none = ap (λ (b : Bool). at Customer && (b && (at Part && at Date))) none ∙ last (at Customer)
  where
    last : (b : Bool) → (b && false) ≡ false
    last true = refl
    last false = refl
off Part true at none = ap (λ (b : Bool). at Customer && (at Supplier && (b && at Date))) none
    ∙ last (at Customer) (at Supplier)
  where
    last : (a b : Bool) → (a && (b && false)) ≡ false
    last true true = refl
    last true false = refl
    last false b = refl
off Date true at none = ap (λ (b : Bool). at Customer && (at Supplier && (at Part && b))) none
    ∙ last (at Customer) (at Supplier) (at Part)
  where
    last : (a b e : Bool) → (a && (b && (e && false))) ≡ false
    last true true true = refl
    last true true false = refl
    last true false e = refl
    last false b e = refl

off_axis : (dimensions : DimRows) (query : Query) (row : LineOrder) (axis : Axis)
    → given_on dimensions query row axis ≡ None → is_selected dimensions query.conditions row ≡ false
off_axis dimensions query row axis none =
    selected_by_places dimensions row query.conditions
    ∙ off axis (list_all (holds_in row) query.conditions) (passes_at dimensions row query.conditions)
    (given_none dimensions query axis (place_on dimensions row axis) none)

-- ---- a row whose key is replaced by one of the same member
module _ (dimensions : DimRows) (query : Query) (axis : Axis) (level : Level) (parts : MemberParts)
    (are : AreParts dimensions query axis level parts) where
  -- a code at which nothing is selected is that of a key at which nothing is
  key_at_code : (code key : ℕ) → MemberHasCode dimensions axis level key code → IsUnselected parts code
      → (other : ℕ) × MemberHasCode dimensions axis level other code
      × (given_at dimensions query axis (row_index_of dimensions axis other) ≡ None)
  key_at_code code key has none =
      (elim (part_in parts code) as (λ found. part_in parts code ≡ found
      → IsPartAt dimensions query axis level code found
      → (other : ℕ) × MemberHasCode dimensions axis level other code
      × (given_at dimensions query axis (row_index_of dimensions axis other) ≡ None)) [
        | None ↦ λ e at. absurd (at key has)
        | Some found ↦ λ e at. (at.0, at.1, sym at.2 ∙ nothing found e)
      ]) refl (are code)
    where
      nothing : (found : Option ℕ) → part_in parts code ≡ Some found → found ≡ None
      nothing None is = refl
      nothing (Some part) is = absurd (none part is)

module _ (asked : AskedOfCells) (cell : Cell) (row : LineOrder)
    (members : HasMembers asked.dimensions asked.modes asked.view row)
    (key_is : key_of asked.dimensions asked.modes asked.view row ≡ cell.key) where
  abbrev dims : DimRows
  dims = asked.dimensions

  customer_is : code_on dims Customer asked.view.customer row ≡ cell.key.customer
  customer_is = ap (λ (k : Key). k.customer) key_is

  supplier_is : code_on dims Supplier asked.view.supplier row ≡ cell.key.supplier
  supplier_is = ap (λ (k : Key). k.supplier) key_is

  part_is : code_on dims Part asked.view.part row ≡ cell.key.part
  part_is = ap (λ (k : Key). k.part) key_is

  date_is : code_on dims Date asked.view.date row ≡ cell.key.date
  date_is = ap (λ (k : Key). k.date) key_is

  mode_is : mode_code asked.view.ship_mode asked.modes row.shipmode ≡ cell.key.ship_mode
  mode_is = ap (λ (k : Key). k.ship_mode) key_is

  pub unwanted_customer : (parts : MemberParts) → AreParts dims asked.query Customer asked.view.customer parts
      → (asked.view.customer ≡ level.All → ⊥) → IsUnselected parts cell.key.customer → HasUnselected asked cell
  unwanted_customer parts are grouped none =
      let found = key_at_code dims asked.query Customer asked.view.customer parts are cell.key.customer row.custkey
      (record { known = members.axes Customer grouped; code_is = customer_is }) none in
      let other : LineOrder = record row { custkey = found.0 } in
      record {
        row = other;
        members = record { axes = axes found.0 found.1.known; ship_mode = members.ship_mode };
        key_is = λ i. record {
          customer = found.1.code_is i;
          supplier = supplier_is i;
          part = part_is i;
          date =
              date_is i;
          ship_mode = mode_is i;
        };
        number_is = off_axis dims asked.query other Customer found.2;
      }
    where
      axes : (key : ℕ) → row_index_of dims Customer key < row_count_of dims Customer → (axis : Axis)
          → (level_on axis asked.view ≡ level.All → ⊥) → IsKnownOn dims (record row { custkey = key }) axis
      axes key known Customer apart = known
      axes key known Supplier apart = members.axes Supplier apart
      axes key known Part apart = members.axes Part apart
      axes key known Date apart = members.axes Date apart

  pub unwanted_supplier : (parts : MemberParts) → AreParts dims asked.query Supplier asked.view.supplier parts
      → (asked.view.supplier ≡ level.All → ⊥) → IsUnselected parts cell.key.supplier → HasUnselected asked cell
  unwanted_supplier parts are grouped none =
      let found = key_at_code dims asked.query Supplier asked.view.supplier parts are cell.key.supplier row.suppkey
      (record { known = members.axes Supplier grouped; code_is = supplier_is }) none in
      let other : LineOrder = record row { suppkey = found.0 } in
      record {
        row = other;
        members = record { axes = axes found.0 found.1.known; ship_mode = members.ship_mode };
        key_is = λ i. record {
          customer = customer_is i;
          supplier = found.1.code_is i;
          part = part_is i;
          date =
              date_is i;
          ship_mode = mode_is i;
        };
        number_is = off_axis dims asked.query other Supplier found.2;
      }
    where
      axes : (key : ℕ) → row_index_of dims Supplier key < row_count_of dims Supplier → (axis : Axis)
          → (level_on axis asked.view ≡ level.All → ⊥) → IsKnownOn dims (record row { suppkey = key }) axis
      axes key known Customer apart = members.axes Customer apart
      axes key known Supplier apart = known
      axes key known Part apart = members.axes Part apart
      axes key known Date apart = members.axes Date apart

  pub unwanted_part : (parts : MemberParts) → AreParts dims asked.query Part asked.view.part parts
      → (asked.view.part ≡ level.All → ⊥) → IsUnselected parts cell.key.part → HasUnselected asked cell
  unwanted_part parts are grouped none =
      let found = key_at_code dims asked.query Part asked.view.part parts are cell.key.part row.partkey
      (record { known = members.axes Part grouped; code_is = part_is }) none in
      let other : LineOrder = record row { partkey = found.0 } in
      record {
        row = other;
        members = record { axes = axes found.0 found.1.known; ship_mode = members.ship_mode };
        key_is = λ i. record {
          customer = customer_is i;
          supplier = supplier_is i;
          part = found.1.code_is i;
          date =
              date_is i;
          ship_mode = mode_is i;
        };
        number_is = off_axis dims asked.query other Part found.2;
      }
    where
      axes : (key : ℕ) → row_index_of dims Part key < row_count_of dims Part → (axis : Axis)
          → (level_on axis asked.view ≡ level.All → ⊥) → IsKnownOn dims (record row { partkey = key }) axis
      axes key known Customer apart = members.axes Customer apart
      axes key known Supplier apart = members.axes Supplier apart
      axes key known Part apart = known
      axes key known Date apart = members.axes Date apart

  pub unwanted_date : (parts : MemberParts) → AreParts dims asked.query Date asked.view.date parts
      → (asked.view.date ≡ level.All → ⊥) → IsUnselected parts cell.key.date → HasUnselected asked cell
  unwanted_date parts are grouped none =
      let found = key_at_code dims asked.query Date asked.view.date parts are cell.key.date row.orderdate
      (record { known = members.axes Date grouped; code_is = date_is }) none in
      let other : LineOrder = record row { orderdate = found.0 } in
      record {
        row = other;
        members = record { axes = axes found.0 found.1.known; ship_mode = members.ship_mode };
        key_is = λ i. record {
          customer = customer_is i;
          supplier = supplier_is i;
          part = part_is i;
          date =
              found.1.code_is i;
          ship_mode = mode_is i;
        };
        number_is = off_axis dims asked.query other Date found.2;
      }
    where
      axes : (key : ℕ) → row_index_of dims Date key < row_count_of dims Date → (axis : Axis)
          → (level_on axis asked.view ≡ level.All → ⊥) → IsKnownOn dims (record row { orderdate = key }) axis
      axes key known Customer apart = members.axes Customer apart
      axes key known Supplier apart = members.axes Supplier apart
      axes key known Part apart = members.axes Part apart
      axes key known Date apart = known

-- no member has a code after all others
pub past_all : (parts : MemberParts) (code : ℕ) → length parts.members.items ≤ code → code < all_code
    → IsUnselected parts code
past_all parts code past below part is =
    let apart : (code == all_code) ≡ false = grind (arith, nat_tests) in
    let none : get_or parts.members.items code NoMember ≡ NoMember =
    get_or-eq_default parts.members.items NoMember past in
    let here : part_in parts code ≡ None =
    ap (λ (b : Bool). given_by (cond b parts.every (get_or parts.members.items code NoMember))) apart
    ∙ ap given_by none in
    let both : Some (Some part) ≡ None = sym is ∙ here in
    absurd (cc both)

-- ---- the numbers of keys
-- a code from which on a number is not passed
code_from : (before unit from code rest : ℕ) → 1 ≤ unit → rest < unit → from ≤ (before + code) * unit + rest
    → from / unit - before ≤ code
code_from before unit from code rest some low high =
    let q : ℕ = from / unit in
    let more : q * unit ≤ from = whole from unit in
    let next : (before + code + 1) * unit ≡ (before + code) * unit + unit = mul_suc (before + code) unit in
    let less : q * unit < (before + code + 1) * unit = omega (arith, more, high, low, next) in
    let below : q < before + code + 1 = lt_of_mul-lt-mul_right unit less in
    omega (arith, below)
  where
    whole : (n m : ℕ) → n / m * m ≤ n
    whole n m = div-mul-le_self n m

    mul_suc : (a m : ℕ) → (a + 1) * m ≡ a * m + m
    mul_suc a m = grind arith

-- a code below that from which a number is
code_below : (before unit next code rest : ℕ) → (before + code) * unit + rest < (before + next) * unit → code < next
code_below before unit next code rest less =
    let low : (before + code) * unit < (before + next) * unit = omega (arith, less) in
    let below : before + code < before + next = lt_of_mul-lt-mul_right unit low in
    omega (arith, below)

pub some_unselected : (parts : MemberParts) (before unit from first next : ℕ) → 1 ≤ unit → first ≡ from / unit - before
    → ((code : ℕ) → first ≤ code → code < next → IsUnselected parts code)
    → AreUnselected parts before unit from (Some ((before + next) * unit))
some_unselected parts before unit from first next some is none code rest within low high less =
    none code (subst (λ (n : ℕ). n ≤ code) (sym is) (code_from before unit from code rest some low high))
    (code_below before unit next code rest less)

pub none_unselected : (parts : MemberParts) (before unit from first : ℕ) → 1 ≤ unit → first ≡ from / unit - before
    → ((code : ℕ) → first ≤ code → code < all_code → IsUnselected parts code)
    → AreUnselected parts before unit from None
none_unselected parts before unit from first some is none code rest within low high less =
    none code (subst (λ (n : ℕ). n ≤ code) (sym is) (code_from before unit from code rest some low high)) within

-- ---- the codes of keys
below_every : (grouped : Level) (code : ℕ) → IsCodeAt grouped code → code < 2 ^ 16 → (grouped ≡ level.All → ⊥)
    → code < all_code
below_every grouped code own fits apart = elim (cases_lt code all_code) [
  | inl less ↦ less
  | inr most ↦ (let every : code ≡ all_code = omega (arith, most, fits) in absurd (apart (own.0 every)))
]

by_number : (parts : MemberParts) (before unit from : ℕ) (to : Option ℕ) (code rest number : ℕ)
    → AreUnselected parts before unit from to → number ≡ (before + code) * unit + rest → code < all_code → rest < unit
    → from ≤ number → IfSome to (λ end. number < end) → IsUnselected parts code
by_number parts before unit from to code rest number none is within low high less =
    none code rest within low (subst (λ (n : ℕ). from ≤ n) is high)
    (subst (λ (n : ℕ). IfSome to (λ end. n < end)) is less)

module _ (view : View) (cell : Cell) (of_view : IsCellOf view cell) (fits : KeyFits cell.key) (parts : MemberParts)
    (from : ℕ) (to : Option ℕ)
    (high : from ≤ key_as_number cell.key) (less : IfSome to (λ end. key_as_number cell.key < end)) where
  abbrev key : Key
  key = cell.key

  pub customer_unselected : (view.customer ≡ level.All → ⊥) → AreUnselected parts 0 18446744073709551616 from to
      → IsUnselected parts key.customer
  customer_unselected grouped none =
      by_number parts 0 18446744073709551616 from to key.customer
      (((key.supplier * 65536 + key.part) * 65536 + key.date) * 65536 + key.ship_mode) (key_as_number key) none
      (omega (arith))
      (below_every view.customer key.customer of_view.key.customer fits.customer grouped)
      (omega (arith, fits.supplier, fits.part, fits.date, fits.ship_mode)) high less

  pub supplier_unselected : (view.customer ≡ level.All) → (view.supplier ≡ level.All → ⊥)
      → AreUnselected parts 4294901760 281474976710656 from to → IsUnselected parts key.supplier
  supplier_unselected every_customer grouped none =
      let is_customer : key.customer ≡ all_code = of_view.key.customer.1 every_customer in
      by_number parts 4294901760 281474976710656 from to key.supplier
      ((key.part * 65536 + key.date) * 65536 + key.ship_mode) (key_as_number key) none (omega (arith, is_customer))
      (below_every view.supplier key.supplier of_view.key.supplier fits.supplier grouped)
      (omega (arith, fits.part, fits.date, fits.ship_mode)) high less

  pub part_unselected : (view.customer ≡ level.All) → (view.supplier ≡ level.All) → (view.part ≡ level.All → ⊥)
      → AreUnselected parts 281474976645120 4294967296 from to → IsUnselected parts key.part
  part_unselected every_customer every_supplier grouped none =
      let is_customer : key.customer ≡ all_code = of_view.key.customer.1 every_customer in
      let is_supplier : key.supplier ≡ all_code = of_view.key.supplier.1 every_supplier in
      by_number parts 281474976645120 4294967296 from to key.part (key.date * 65536 + key.ship_mode) (key_as_number key)
      none (omega (arith, is_customer, is_supplier))
      (below_every view.part key.part of_view.key.part fits.part grouped) (omega (arith, fits.date, fits.ship_mode))
      high less

  pub date_unselected : (view.customer ≡ level.All) → (view.supplier ≡ level.All) → (view.part ≡ level.All)
      → (view.date ≡ level.All → ⊥) → AreUnselected parts 18446744073709486080 65536 from to
      → IsUnselected parts key.date
  date_unselected every_customer every_supplier every_part grouped none =
      let is_customer : key.customer ≡ all_code = of_view.key.customer.1 every_customer in
      let is_supplier : key.supplier ≡ all_code = of_view.key.supplier.1 every_supplier in
      let is_part : key.part ≡ all_code = of_view.key.part.1 every_part in
      by_number parts 18446744073709486080 65536 from to key.date (key.ship_mode) (key_as_number key) none
      (omega (arith, is_customer, is_supplier, is_part))
      (below_every view.date key.date of_view.key.date fits.date grouped) (omega (arith, fits.ship_mode)) high less
