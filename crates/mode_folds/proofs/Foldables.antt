-- Some of fact rows that may be folded may be folded.
use Rattle.std.proofs.Common.{◌≡◌, refl, ℕ, ◌+◌, ◌≤◌, Bool, true, false, cond, List, [], ◌∷◌, length}
use Rattle.std.proofs.Common.{Option, Some, None, arith, nat_abs, not}
use Rattle.std.specs.List.{filter, sum_by}
use Rattle.std.specs.Prelude.{is_none}
use Rattle.std.proofs.lemmas.List.Filters.{sum_by-filter_both}
use Rattle.std.proofs.lemmas.List.Sums.{count_by-le-length, length-filter}
use Rattle.cube_model.specs.declared.fault.Fault.{Fault}
use Rattle.cube_model.specs.declared.fault.Fault.TheVariants.{UnknownCustomer, UnknownSupplier, UnknownPart}
use Rattle.cube_model.specs.declared.fault.Fault.TheVariants.{UnknownDate}
use Rattle.cube_model.specs.declared.rows.DimRows.{DimRows}
use Rattle.cube_model.specs.declared.rows.LineOrder.{LineOrder}
use Rattle.cube_model.specs.Admission.{AreInRange, unknown_axis, unknown_key}
use Rattle.cube_model.specs.Attributes.{customer_of, supplier_of, part_of, date_of}
use Rattle.cube_model.specs.Causes.{cause_if, first_cause}
use Rattle.group_tallies.specs.Limits.{AreFoldable}

first_none : (cause : Option Fault) (causes : List (Option Fault)) → first_cause (cause ∷ causes) ≡ None
    → (cause ≡ None) × (first_cause causes ≡ None)
first_none None causes none = (refl, none)
first_none (Some fault) causes none = absurd (cc none)

none_first : (cause : Option Fault) (causes : List (Option Fault)) → cause ≡ None → first_cause causes ≡ None
    → first_cause (cause ∷ causes) ≡ None
none_first None causes here there = there
none_first (Some fault) causes here there = absurd (cc here)

-- a cause comes or not, whatever its row's number
renumbered : (test : Bool) (fault other : Fault) → cause_if test fault ≡ None → cause_if test other ≡ None
renumbered true fault other none = absurd (cc none)
renumbered false fault other none = refl

axis_renumbered : (dimensions : DimRows) (number other : ℕ) (row : LineOrder)
    → unknown_axis dimensions number row ≡ None → unknown_axis dimensions other row ≡ None
axis_renumbered dimensions number other row none =
    let customer = first_none (cause_if (is_none (customer_of dimensions row.custkey)) (UnknownCustomer number)) _
    none in
    let supplier = first_none (cause_if (is_none (supplier_of dimensions row.suppkey)) (UnknownSupplier number)) _
    customer.1 in
    let part = first_none (cause_if (is_none (part_of dimensions row.partkey)) (UnknownPart number)) _ supplier.1 in
    let date = first_none (cause_if (is_none (date_of dimensions row.orderdate)) (UnknownDate number)) _ part.1 in
    none_first (cause_if (is_none (customer_of dimensions row.custkey)) (UnknownCustomer other)) _
    (renumbered (is_none (customer_of dimensions row.custkey)) (UnknownCustomer number) (UnknownCustomer other)
    customer.0)
    (none_first (cause_if (is_none (supplier_of dimensions row.suppkey)) (UnknownSupplier other)) _
    (renumbered (is_none (supplier_of dimensions row.suppkey)) (UnknownSupplier number) (UnknownSupplier other)
    supplier.0)
    (none_first (cause_if (is_none (part_of dimensions row.partkey)) (UnknownPart other)) _
    (renumbered (is_none (part_of dimensions row.partkey)) (UnknownPart number) (UnknownPart other) part.0)
    (none_first (cause_if (is_none (date_of dimensions row.orderdate)) (UnknownDate other)) []
    (renumbered (is_none (date_of dimensions row.orderdate)) (UnknownDate number) (UnknownDate other) date.0) refl)))

pub known_filter : (dimensions : DimRows) (p : LineOrder → Bool) (number other : ℕ) (rows : List LineOrder)
    → unknown_key dimensions number rows ≡ None → unknown_key dimensions other (filter p rows) ≡ None
known_filter dimensions p number other [] none = refl
known_filter dimensions p number other (row ∷ rows) none =
    let both = first_none (unknown_axis dimensions number row) (unknown_key dimensions (number + 1) rows ∷ []) none in
    let rest = (first_none (unknown_key dimensions (number + 1) rows) [] both.1).0 in
    elim (p row) as (λ b. unknown_key dimensions other (cond b (row ∷ filter p rows) (filter p rows)) ≡ None) [
      | true ↦ none_first (unknown_axis dimensions other row) _
          (axis_renumbered dimensions number other row both.0)
          (none_first (unknown_key dimensions (other + 1) (filter p rows)) []
          (known_filter dimensions p (number + 1) (other + 1) rows rest) refl)
      | false ↦ known_filter dimensions p (number + 1) other rows rest
    ]

less_filter : {X : Type 0} (f : X → ℕ) (p : X → Bool) (xs : List X) → sum_by f (filter p xs) ≤ sum_by f xs
less_filter f p xs = omega (arith, sum_by-filter_both p (λ x. not (p x)) (λ x. refl) f xs)

pub fewer_filter : {X : Type 0} (p : X → Bool) (xs : List X) → length (filter p xs) ≤ length xs
fewer_filter p xs = omega (arith, length-filter p xs, count_by-le-length p xs)

pub range_filter : (p : LineOrder → Bool) (rows : List LineOrder) → AreInRange rows → AreInRange (filter p rows)
range_filter p rows range measure =
    omega (
      arith,
      range measure,
      less_filter (λ row. nat_abs (Rattle.cube_model.specs.Measures.measure_of measure row))
          p rows,
    )

-- those of some fact rows that pass a test
pub foldable_filter : (dimensions : DimRows) (p : LineOrder → Bool) (rows : List LineOrder)
    → AreFoldable dimensions rows → AreFoldable dimensions (filter p rows)
foldable_filter dimensions p rows can = record {
  few = omega (arith, can.few, fewer_filter p rows);
  known = known_filter dimensions p 1 1 rows can.known;
  in_range = range_filter p rows can.in_range;
}
