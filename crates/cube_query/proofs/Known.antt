-- Where every key of some fact rows is known, each row's keys have places.
use Rattle.std.proofs.Common.{◌≡◌, ◌∙◌, ap, refl, ℕ, zero, suc, ◌+◌, ◌<◌, Bool, true, false, List, [], ◌∷◌, ◌++◌}
use Rattle.std.proofs.Common.{length, Some, None, arith, inl, inr}
use Rattle.std.specs.Prelude.{Option, ◌==◌, is_none, find}
use Rattle.std.specs.List.{position_or_len, All}
use Rattle.std.proofs.lemmas.List.Folds.{find_at}
use Rattle.std.proofs.lemmas.Option.{slice_get_cases}
use Rattle.cube_model.specs.declared.attr.Axis.TheVariants.{Customer, Supplier, Part, Date}
use Rattle.cube_model.specs.declared.fault.Fault.{Fault}
use Rattle.cube_model.specs.declared.fault.Fault.TheVariants.{UnknownCustomer, UnknownSupplier, UnknownPart}
use Rattle.cube_model.specs.declared.fault.Fault.TheVariants.{UnknownDate}
use Rattle.cube_model.specs.declared.rows.DimRows.{DimRows}
use Rattle.cube_model.specs.declared.rows.LineOrder.{LineOrder}
use Rattle.cube_model.specs.Admission.{unknown_axis, unknown_key}
use Rattle.cube_model.specs.Attributes.{customer_of, supplier_of, part_of, date_of}
use Rattle.cube_model.specs.Causes.{first_cause, cause_if}
use Rattle.group_numbers.specs.Numbers.{IsKnown}

-- what is found has a place
place_found : {X : Type 0} (p : X → Bool) (xs : List X) → is_none (find p xs) ≡ false → position_or_len p xs < length xs
place_found p xs some =
    elim (slice_get_cases xs (position_or_len p xs)).1 [
      | inl inside ↦ inside.1
      | inr past ↦
          let none : is_none (find p xs) ≡ true = ap is_none (find_at p xs ∙ past.1) in
          absurd (cc (none, some))
    ]

-- no cause, and none after it
no_cause : (test : Bool) (fault : Fault) (causes : List (Option Fault))
    → first_cause (cause_if test fault ∷ causes) ≡ None → (test ≡ false) × (first_cause causes ≡ None)
no_cause true fault causes none = absurd (cc none)
no_cause false fault causes none = (refl, none)

first_none : (cause : Option Fault) (causes : List (Option Fault)) → first_cause (cause ∷ causes) ≡ None
    → (cause ≡ None) × (first_cause causes ≡ None)
first_none None causes none = (refl, none)
first_none (Some fault) causes none = absurd (cc none)

only_none : (cause : Option Fault) → first_cause (cause ∷ []) ≡ None → cause ≡ None
only_none cause none = (first_none cause [] none).0

known_row : (dimensions : DimRows) (number : ℕ) (row : LineOrder) → unknown_axis dimensions number row ≡ None
    → IsKnown dimensions row
known_row dimensions number row none Customer =
    place_found (λ other. other.key == row.custkey) dimensions.customers
    (no_cause (is_none (customer_of dimensions row.custkey)) (UnknownCustomer number) _ none).0
known_row dimensions number row none Supplier =
    let customer = no_cause (is_none (customer_of dimensions row.custkey)) (UnknownCustomer number) _ none in
    place_found (λ other. other.key == row.suppkey) dimensions.suppliers
    (no_cause (is_none (supplier_of dimensions row.suppkey)) (UnknownSupplier number) _ customer.1).0
known_row dimensions number row none Part =
    let customer = no_cause (is_none (customer_of dimensions row.custkey)) (UnknownCustomer number) _ none in
    let supplier = no_cause (is_none (supplier_of dimensions row.suppkey)) (UnknownSupplier number) _ customer.1 in
    place_found (λ other. other.key == row.partkey) dimensions.parts
    (no_cause (is_none (part_of dimensions row.partkey)) (UnknownPart number) _ supplier.1).0
known_row dimensions number row none Date =
    let customer = no_cause (is_none (customer_of dimensions row.custkey)) (UnknownCustomer number) _ none in
    let supplier = no_cause (is_none (supplier_of dimensions row.suppkey)) (UnknownSupplier number) _ customer.1 in
    let part = no_cause (is_none (part_of dimensions row.partkey)) (UnknownPart number) _ supplier.1 in
    place_found (λ other. other.key == row.orderdate) dimensions.dates
    (no_cause (is_none (date_of dimensions row.orderdate)) (UnknownDate number) _ part.1).0

known_from : (dimensions : DimRows) (number : ℕ) (rows : List LineOrder) → unknown_key dimensions number rows ≡ None
    → All (IsKnown dimensions) rows
known_from dimensions number [] none k row h = absurd (omega (arith, h))
known_from dimensions number (first ∷ rows) none zero row h =
    known_row dimensions number first (first_none (unknown_axis dimensions number first) _ none).0
known_from dimensions number (first ∷ rows) none (suc k) row h =
    known_from dimensions (number + 1) rows
    (only_none (unknown_key dimensions (number + 1) rows)
    (first_none (unknown_axis dimensions number first) _ none).1) k row (omega (arith, h))

-- the rows that come after others
pub known_after : (dimensions : DimRows) (number : ℕ) (so_far rows : List LineOrder)
    → unknown_key dimensions number (so_far ++ rows) ≡ None → All (IsKnown dimensions) rows
known_after dimensions number [] rows none = known_from dimensions number rows none
known_after dimensions number (row ∷ so_far) rows none =
    known_after dimensions (number + 1) so_far rows
    (only_none (unknown_key dimensions (number + 1) (so_far ++ rows))
    (first_none (unknown_axis dimensions number row) _ none).1)
