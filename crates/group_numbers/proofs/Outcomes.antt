-- What becomes of a fact row by the query's bounds and sides.
use Rattle.std.proofs.Common.{◌≡◌, ◌∙◌, ap, sym, subst, refl, true≢false, arith, ℕ, ◌+◌, ◌*◌, ◌^◌, ◌<◌, ◌≤◌, Bool, true}
use Rattle.std.proofs.Common.{false, cond, ◌&&◌, ◌||◌, nat_le, min, max, Option, Some, None, List, [], ◌∷◌}
use Rattle.std.specs.Prelude.{IfSome}
use Rattle.cube_model.specs.Places.{row_count_of}
use Rattle.std.specs.List.{list_any, list_all}
use Rattle.std.proofs.lemmas.Bool.Decides.{nat_tests}
use Rattle.cube_model.specs.declared.attr.Attr.{Attr}
use Rattle.cube_model.specs.declared.attr.Axis.{Axis}
use Rattle.cube_model.specs.declared.attr.Axis.TheVariants.{Customer, Supplier, Part, Date}
use Rattle.cube_model.specs.declared.query.Cond.{Cond}
use Rattle.cube_model.specs.declared.query.Cond.TheVariants.{OneOf, Between, Quantity, Discount}
use Rattle.std.specs.Result.{IfOk, OnOk}
use Rattle.std.specs.declared.result.Result.{Result}
use Rattle.std.specs.declared.result.Result.TheVariants.{Ok, Err}
use Rattle.cube_model.specs.declared.query.Query.{Query}
use Rattle.cube_model.specs.declared.rows.DimRows.{DimRows}
use Rattle.cube_model.specs.declared.rows.LineOrder.{LineOrder}
use Rattle.cube_model.specs.Attributes.{axis_of}
use Rattle.group_numbers.specs.Numbers.{group_count, group_key_at, IsKnown, IsGroupNumber}
use Rattle.group_numbers.specs.Parts.{is_same, is_on, is_used, holds_at, holds_in, rank_at, part_at, given_at}
use Rattle.group_numbers.specs.GroupNumbers.{AreBounds, bounds_with, is_within}
use Rattle.group_numbers.specs.declared.bounds.Bounds.{Bounds}
use Rattle.cube_model.specs.Selection.{is_selected}
use Rattle.group_numbers.proofs.Split.{all_five, place_on, passes_at, selected_by_places}
use Rattle.group_numbers.proofs.Numbers.{known_in_columns, number_is, number_on, part_below}

-- ---- bounds
nat_le-max : (a b q : ℕ) → nat_le (max a b) q ≡ (nat_le a q && nat_le b q)
nat_le-max a b q = grind (arith, nat_tests)

nat_le-min : (q a b : ℕ) → nat_le q (min a b) ≡ (nat_le q a && nat_le q b)
nat_le-min q a b = grind (arith, nat_tests)

first_pair : (a b c d r : Bool) → ((a && b) && ((c && d) && r)) ≡ ((b && d) && (a && (c && r)))
first_pair true true true true r = refl
first_pair true true true false r = refl
first_pair true true false true r = refl
first_pair true true false false r = refl
first_pair true false c d r = refl
first_pair false true c true r = refl
first_pair false true c false r = refl
first_pair false false c d r = refl

and_pairs : (a b c d : Bool) → ((a && b) && (c && d)) ≡ ((b && d) && (a && c))
and_pairs true true true true = refl
and_pairs true true true false = refl
and_pairs true true false true = refl
and_pairs true true false false = refl
and_pairs true false c d = refl
and_pairs false true c true = refl
and_pairs false true c false = refl
and_pairs false false c d = refl

and_false : (x : Bool) → false ≡ (x && false)
and_false true = refl
and_false false = refl

second_pair : (a b c d x y : Bool) → (x && (y && ((a && b) && (c && d)))) ≡ ((b && d) && (x && (y && (a && c))))
second_pair a b c d true true = and_pairs a b c d
second_pair a b c d true false = and_false (b && d)
second_pair a b c d false y = and_false (b && d)

pub AreBounds-with : (condition : Cond) (conditions : List Cond) (bounds : Bounds) → AreBounds conditions bounds
    → AreBounds (condition ∷ conditions) (bounds_with bounds condition)
AreBounds-with (OneOf attr texts) conditions bounds are row quantity discount = are row quantity discount
AreBounds-with (Between attr low high) conditions bounds are row quantity discount = are row quantity discount
AreBounds-with (Quantity low high) conditions bounds are row quantity discount =
    (λ i. nat_le-max bounds.least_quantity low row.quantity i &&
    (nat_le-min row.quantity bounds.greatest_quantity high i
    && (nat_le bounds.least_discount row.discount && nat_le row.discount bounds.greatest_discount)))
    ∙ first_pair (nat_le bounds.least_quantity row.quantity) (nat_le low row.quantity)
    (nat_le row.quantity bounds.greatest_quantity) (nat_le row.quantity high)
    (nat_le bounds.least_discount row.discount && nat_le row.discount bounds.greatest_discount)
    ∙ ap (λ b. (nat_le low row.quantity && nat_le row.quantity high) && b) (are row quantity discount)
AreBounds-with (Discount low high) conditions bounds are row quantity discount =
    (λ i. nat_le bounds.least_quantity row.quantity && (nat_le row.quantity bounds.greatest_quantity
    && (nat_le-max bounds.least_discount low row.discount i && nat_le-min row.discount bounds.greatest_discount high
    i)))
    ∙ second_pair (nat_le bounds.least_discount row.discount) (nat_le low row.discount)
    (nat_le row.discount bounds.greatest_discount) (nat_le row.discount high)
    (nat_le bounds.least_quantity row.quantity) (nat_le row.quantity bounds.greatest_quantity)
    ∙ ap (λ b. (nat_le low row.discount && nat_le row.discount high) && b) (are row quantity discount)

pub within_bounds : (query : Query) (row : LineOrder) (bounds : Bounds) → AreBounds query.conditions bounds
    → (quantity discount : ℕ) → quantity ≡ row.quantity → discount ≡ row.discount → quantity < 256 → discount < 256
    → list_all (holds_in row) query.conditions ≡ is_within bounds quantity discount
within_bounds query row bounds are quantity discount q d small few =
    sym (are row (subst (λ n. n < 256) q small) (subst (λ n. n < 256) d few))
    ∙ (λ i. is_within bounds (sym q i) (sym d i))

-- ---- what is given where the key is known
pub given_is : {T E : Type 0} (result : Result T E) (K : Type 0) (left right : T) → IfOk result (λ part. part ≡ left)
    → OnOk result K → (K → left ≡ right) → IfOk result (λ part. part ≡ right)
given_is (Ok part) K left right is known same = is ∙ same known
given_is (Err error) K left right is known same = tt

-- ---- what a place gives
module _ (dimensions : DimRows) (query : Query) (axis : Axis) (place : ℕ) where
  pub given_none : given_at dimensions query axis place ≡ None
      → list_all (holds_at dimensions axis place) query.conditions ≡ false
  given_none =
      elim (list_all (holds_at dimensions axis place) query.conditions) as
      (λ b. cond b (Some (part_at dimensions axis place query.columns)) None ≡ None → b ≡ false) [
        | true ↦ λ e. cc
        | false ↦ λ e. refl
      ]

  pub given_some : (part : ℕ) → given_at dimensions query axis place ≡ Some part
      → (list_all (holds_at dimensions axis place) query.conditions ≡ true)
      × (part ≡ part_at dimensions axis place query.columns)
  given_some part =
      elim (list_all (holds_at dimensions axis place) query.conditions) as
      (λ b. cond b (Some (part_at dimensions axis place query.columns)) None ≡ Some part
      → (b ≡ true) × (part ≡ part_at dimensions axis place query.columns)) [
        | true ↦ λ e. (refl, cc)
        | false ↦ λ e. cc
      ]

-- numbers below some count fit where the count does
pub given_below : (dimensions : DimRows) (query : Query) (axis : Axis) (place limit : ℕ)
    → place < row_count_of dimensions axis
    → 0 < group_count dimensions query.columns → group_count dimensions query.columns ≤ limit
    → IfSome (given_at dimensions query axis place) (λ number. number < limit)
given_below dimensions query axis place limit within some narrow =
    elim (list_all (holds_at dimensions axis place) query.conditions) as
    (λ b. IfSome (cond b (Some (part_at dimensions axis place query.columns)) None) (λ number. number < limit)) [
      | true ↦ omega (arith, part_below dimensions axis place within query.columns some, narrow)
      | false ↦ tt
    ]

or_left : (a b : Bool) → (a || b) ≡ false → a ≡ false
or_left true b e = e
or_left false b e = refl

or_right : (a b : Bool) → (a || b) ≡ false → b ≡ false
or_right true b e = absurd (true≢false e)
or_right false b e = e

module _ (dimensions : DimRows) (axis : Axis) (place : ℕ) where
  other_condition : (condition : Cond) → is_on axis condition ≡ false → holds_at dimensions axis place condition ≡ true
  other_condition (OneOf attr texts) off = rw off refl
  other_condition (Between attr low high) off = rw off refl
  other_condition (Quantity low high) off = refl
  other_condition (Discount low high) off = refl

  other_conditions : (conditions : List Cond) → list_any (is_on axis) conditions ≡ false
      → list_all (holds_at dimensions axis place) conditions ≡ true
  other_conditions [] off = refl
  other_conditions (condition ∷ conditions) off =
      (λ i. other_condition condition (or_left (is_on axis condition) (list_any (is_on axis) conditions) off) i
      && other_conditions conditions (or_right (is_on axis condition) (list_any (is_on axis) conditions) off) i)

  other_columns : (columns : List Attr) → list_any (λ column. is_same (axis_of column) axis) columns ≡ false
      → part_at dimensions axis place columns ≡ 0
  other_columns [] off = refl
  other_columns (column ∷ columns) off =
      let here = or_left (is_same (axis_of column) axis) (list_any (λ other. is_same (axis_of other) axis) columns)
      off in
      let others = or_right (is_same (axis_of column) axis) (list_any (λ other. is_same (axis_of other) axis) columns)
      off in
      (λ i. cond (here i) (rank_at dimensions column place * group_count dimensions columns) 0
      + other_columns columns others i)

  -- a dimension that is not used gives nothing to a number, and holds no row back
  pub given_unused : (query : Query) → is_used query axis ≡ false → given_at dimensions query axis place ≡ Some 0
  given_unused query off =
      let columns =
      or_left (list_any (λ column. is_same (axis_of column) axis) query.columns)
      (list_any (is_on axis) query.conditions) off in
      let conditions =
      or_right (list_any (λ column. is_same (axis_of column) axis) query.columns)
      (list_any (is_on axis) query.conditions) off in
      (λ i. cond (other_conditions query.conditions conditions i) (Some (other_columns query.columns columns i)) None)

-- ---- the number of a fact row, by the query's bounds and what its places give
module _ (dimensions : DimRows) (query : Query) (row : LineOrder) where
  abbrev given_on : Axis → Option ℕ
  given_on axis = given_at dimensions query axis (place_on dimensions row axis)

  abbrev passes_on : Axis → Bool
  passes_on axis = passes_at dimensions row query.conditions axis

  abbrev within : Bool
  within = list_all (holds_in row) query.conditions

  parts_of : (customer supplier part date : ℕ) → given_on Customer ≡ Some customer → given_on Supplier ≡ Some supplier
      → given_on Part ≡ Some part → given_on Date ≡ Some date
      → customer + (supplier + (part + date)) ≡ number_on dimensions row query.columns
  parts_of customer supplier part date c s p d =
      let c' = (given_some dimensions query Customer (place_on dimensions row Customer) customer c).1 in
      let s' = (given_some dimensions query Supplier (place_on dimensions row Supplier) supplier s).1 in
      let p' = (given_some dimensions query Part (place_on dimensions row Part) part p).1 in
      let d' = (given_some dimensions query Date (place_on dimensions row Date) date d).1 in
      λ i. c' i + (s' i + (p' i + d' i))

  passed : (axis : Axis) (part : ℕ) → given_on axis ≡ Some part → passes_on axis ≡ true
  passed axis part is = (given_some dimensions query axis (place_on dimensions row axis) part is).0

  failed : (axis : Axis) → given_on axis ≡ None → passes_on axis ≡ false
  failed axis is = given_none dimensions query axis (place_on dimensions row axis) is

  pub out_of_bounds : within ≡ false → is_selected dimensions query.conditions row ≡ false
  out_of_bounds n = selected_by_places dimensions row query.conditions
      ∙ (λ i. all_five (n i) (passes_on Customer) (passes_on Supplier) (passes_on Part) (passes_on Date))

  pub no_customer : within ≡ true → given_on Customer ≡ None → is_selected dimensions query.conditions row ≡ false
  no_customer n c = selected_by_places dimensions row query.conditions
      ∙ (λ i. all_five (n i) (failed Customer c i) (passes_on Supplier) (passes_on Part) (passes_on Date))

  pub no_supplier : (customer : ℕ) → within ≡ true → given_on Customer ≡ Some customer → given_on Supplier ≡ None
      → is_selected dimensions query.conditions row ≡ false
  no_supplier customer n c s = selected_by_places dimensions row query.conditions
      ∙ (λ i. all_five (n i) (passed Customer customer c i) (failed Supplier s i) (passes_on Part) (passes_on Date))

  pub no_part : (customer supplier : ℕ) → within ≡ true → given_on Customer ≡ Some customer
      → given_on Supplier ≡ Some supplier → given_on Part ≡ None
      → is_selected dimensions query.conditions row ≡ false
  no_part customer supplier n c s p = selected_by_places dimensions row query.conditions
      ∙ (λ i. all_five (n i) (passed Customer customer c i) (passed Supplier supplier s i) (failed Part p i)
      (passes_on Date))

  pub no_date : (customer supplier part : ℕ) → within ≡ true → given_on Customer ≡ Some customer
      → given_on Supplier ≡ Some supplier → given_on Part ≡ Some part → given_on Date ≡ None
      → is_selected dimensions query.conditions row ≡ false
  no_date customer supplier part n c s p d = selected_by_places dimensions row query.conditions
      ∙ (λ i. all_five (n i) (passed Customer customer c i) (passed Supplier supplier s i) (passed Part part p i)
      (failed Date d i))

  pub numbered : (customer supplier part date : ℕ) → within ≡ true → given_on Customer ≡ Some customer
      → given_on Supplier ≡ Some supplier → given_on Part ≡ Some part → given_on Date ≡ Some date
      → (is_selected dimensions query.conditions row ≡ true)
      × (customer + (supplier + (part + date)) ≡ number_on dimensions row query.columns)
  numbered customer supplier part date n c s p d = (
    selected_by_places dimensions row query.conditions
        ∙ (λ i. all_five (n i) (passed Customer customer c i) (passed Supplier supplier s i) (passed Part part p i)
        (passed Date date d i)),
    parts_of customer supplier part date c s p d,
  )

  -- the number of a row whose keys are known is the sum of what its four places give, also where sums wrap, since all
  -- numbers fit
  pub number_by_parts : IsKnown dimensions row → group_count dimensions query.columns < 2 ^ 128 → within ≡ true
      → (customer supplier part date : ℕ) → given_on Customer ≡ Some customer → given_on Supplier ≡ Some supplier
      → given_on Part ≡ Some part → given_on Date ≡ Some date
      → (total : ℕ) → (customer + (supplier + (part + date)) < 2 ^ 128 → total ≡ customer + (supplier + (part + date)))
      → IsGroupNumber dimensions query row (Some total)
  number_by_parts known fits n customer supplier part date c s p d total total_is =
      let found = numbered customer supplier part date n c s p d in
      let is = number_is dimensions row query.columns
      (known_in_columns dimensions query row (λ axis used. known axis)) in
      let sum : total ≡ number_on dimensions row query.columns = total_is (omega (arith, found.1, is.0, fits))
      ∙ found.1 in (
        found.0,
        subst (λ m. m < group_count dimensions query.columns) (sym sum) is.0,
        ap (group_key_at dimensions query.columns) sum ∙ is.1,
      )
