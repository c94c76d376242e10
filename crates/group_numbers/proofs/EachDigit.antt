-- The digits of numbers of groups, each by itself: what one means, and the number with that of ALL in its place.
use Rattle.std.specs.Prelude.{nat_eq}
use Rattle.std.proofs.Common.{◌≡◌, ◌≢◌, true, false, ◌∙◌, sym, ap, refl, subst, inl, inr, length-append, ◌++◌, ℕ, zero}
use Rattle.std.proofs.Common.{suc, ◌+◌, ◌*◌, ◌-◌, ◌/◌, ◌%◌, ◌<◌, ◌≤◌, List, [], ◌∷◌, drop, arith, length, get_or}
use Rattle.std.proofs.Common.{slice_set}
use Rattle.std.proofs.lemmas.Bool.{cases_lt}
use Rattle.std.proofs.lemmas.Bool.Decides.{nat_tests}
use Rattle.std.proofs.lemmas.List.{get_or_append_left, get_or_push}
use Rattle.std.proofs.lemmas.Nat.{mul-add-lt, div-mul-add, mod-mul-add, div_below, mod_below, div-add-mod'}
use Rattle.std.proofs.Math.Nat.{mul_comm, mul-add-div_right, mul-add-mod_self_right, mod-eq_of_lt, div-eq_of_lt}
use Rattle.std.proofs.Math.Numerals.{add-one}
use Rattle.cube_model.specs.declared.answer.Member.TheVariants.{All}
use Rattle.cube_model.specs.declared.attr.Attr.{Attr}
use Rattle.cube_model.specs.declared.rows.DimRows.{DimRows}
use Rattle.cube_model.specs.Places.{attr_members}
use Rattle.group_numbers.specs.declared.column.Column.{Column}
use Rattle.group_numbers.specs.Numbers.{digit_count, group_count, digit_member, group_key_at}
use Rattle.group_numbers.specs.Columns.{digit_of, with_highest, attr_at, weight_at, AreColumns, IsColumnAt}
use Rattle.cube_model.specs.Keys.{is_all}
use Rattle.group_numbers.proofs.Numbers.{positive, member_at-all, member_at-rank}

-- ---- a whole that is taken some times, with something after it
module _ (q m d w r : ℕ) (some : 0 < w) where
  quotient_more : (q * (m * (d * w)) + r) / w ≡ q * m * d + r / w
  quotient_more = ap (λ n. (n + r) / w) regroup ∙ mul-add-div_right some (q * m * d) r
    where
      regroup : q * (m * (d * w)) ≡ q * m * d * w
      regroup = omega arith

  rest_more : (q * (m * (d * w)) + r) % w ≡ r % w
  rest_more = ap (λ n. (n + r) % w) regroup ∙ mul-add-mod_self_right (q * m * d) w r
    where
      regroup : q * (m * (d * w)) ≡ q * m * d * w
      regroup = omega arith

  digit_more : digit_of d w (q * (m * (d * w)) + r) ≡ digit_of d w r
  digit_more = ap (λ n. n % d) quotient_more ∙ mul-add-mod_self_right (q * m) d (r / w)

  module _ (some_digits : 0 < d * w) where
    high_more : (q * (m * (d * w)) + r) / (d * w) ≡ q * m + r / (d * w)
    high_more = ap (λ n. (n + r) / (d * w)) regroup ∙ mul-add-div_right some_digits (q * m) r
      where
        regroup : q * (m * (d * w)) ≡ q * m * (d * w)
        regroup = omega arith

    with_highest_more : with_highest d w (q * (m * (d * w)) + r) ≡ q * (m * (d * w)) + with_highest d w r
    with_highest_more =
        (λ i. (high_more i * d + (d - 1)) * w + rest_more i) ∙ regroup (r / (d * w)) (d - 1) (r % w)
      where
        regroup : (h t l : ℕ) → ((q * m + h) * d + t) * w + l ≡ q * (m * (d * w)) + ((h * d + t) * w + l)
        regroup h t l = omega arith

-- what is above a digit is no more than the whole
pub above_fits : (d w number : ℕ) → 0 < w → number / (d * w) * d ≤ with_highest d w number
above_fits d w number some = whole (number / (d * w) * d) (d - 1) w (number % w) some
  where
    whole : (a t w l : ℕ) → 0 < w → a ≤ (a + t) * w + l
    whole a t zero l some = absurd (omega (arith, some))
    whole a t (suc w) l some = omega arith

-- the highest digit in place of the first
first_highest : (d w number : ℕ) → 0 < d → 0 < w → number < d * w → with_highest d w number ≡ (d - 1) * w + number % w
first_highest d w number some_digits some below =
    let top : 0 * d + (d - 1) ≡ d - 1 = omega arith in
    ap (λ h. (h * d + (d - 1)) * w + number % w) (div-eq_of_lt below) ∙ ap (λ t. t * w + number % w) top

module _ (dimensions : DimRows) where
  pub some_groups : (columns : List Attr) → 0 < group_count dimensions columns
  some_groups [] = omega arith
  some_groups (column ∷ columns) =
      let rest = some_groups columns in
      omega (arith, rest, mul-le-one (length (attr_members dimensions column)) (group_count dimensions columns))
    where
      mul-le-one : (a b : ℕ) → b ≤ (a + 1) * b
      mul-le-one a b = omega arith

  -- the groups by all columns after one are a multiple of those by a later one and those after it
  whole_is : (columns : List Attr) (i : ℕ) → i < length columns
      → (m : ℕ) × (group_count dimensions columns
      ≡ m * (digit_count dimensions (attr_at columns i) * group_count dimensions (drop (suc i) columns)))
  whole_is [] i h = absurd (omega (arith, h))
  whole_is (column ∷ columns) zero h = (1, omega arith)
  whole_is (column ∷ columns) (suc i) h =
      let rest = whole_is columns i (omega (arith, h)) in
      let digits = digit_count dimensions column in (
        digits * rest.0,
        ap (λ n. digits * n) rest.1
            ∙ regroup digits rest.0
            (digit_count dimensions (attr_at columns i) * group_count dimensions (drop (suc i) columns)),
      )
    where
      regroup : (a b c : ℕ) → a * (b * c) ≡ a * b * c
      regroup a b c = omega arith

  -- what the digit of a column means is what the key has there
  key_digit : (columns : List Attr) (i number : ℕ) → i < length columns → number < group_count dimensions columns
      → get_or (group_key_at dimensions columns number) i All ≡ digit_member dimensions (attr_at columns i)
      (digit_of (digit_count dimensions (attr_at columns i)) (group_count dimensions (drop (suc i) columns)) number)
  key_digit [] i number h below = absurd (omega (arith, h))
  key_digit (column ∷ columns) zero number h below =
      let digits = digit_count dimensions column in
      let count = group_count dimensions columns in
      ap (digit_member dimensions column)
      (sym (mod-eq_of_lt (div_below number count digits (some_groups columns) below)))
  key_digit (column ∷ columns) (suc i) number h below =
      let count = group_count dimensions columns in
      let d = digit_count dimensions (attr_at columns i) in
      let w = group_count dimensions (drop (suc i) columns) in
      let q = number / count in
      let r = number % count in
      let m = whole_is columns i (omega (arith, h)) in
      let split : number ≡ q * (m.0 * (d * w)) + r = sym (div-add-mod' number count) ∙ ap (λ n. q * n + r) m.1 in
      key_digit columns i r (omega (arith, h)) (mod_below number count (some_groups columns))
      ∙ ap (digit_member dimensions (attr_at columns i))
      (sym (ap (digit_of d w) split ∙ digit_more q m.0 d w r (some_groups (drop (suc i) columns))))

  -- the number with the digit of ALL has the key with ALL
  key_all : (columns : List Attr) (i number : ℕ) → i < length columns → number < group_count dimensions columns
      → (with_highest (digit_count dimensions (attr_at columns i)) (group_count dimensions (drop (suc i) columns))
      number < group_count dimensions columns)
      × (group_key_at dimensions columns
      (with_highest (digit_count dimensions (attr_at columns i)) (group_count dimensions (drop (suc i) columns))
      number) ≡ slice_set (group_key_at dimensions columns number) i All)
  key_all [] i number h below = absurd (omega (arith, h))
  key_all (column ∷ columns) zero number h below =
      let members = length (attr_members dimensions column) in
      let digits = digit_count dimensions column in
      let count = group_count dimensions columns in
      let r = number % count in
      let small : r < count = mod_below number count (some_groups columns) in
      let is : with_highest digits count number ≡ (digits - 1) * count + r =
      first_highest digits count number (omega arith) (some_groups columns) below in
      let top : digits - 1 ≡ members = omega arith in (
        subst (λ n. n < digits * count) (sym is)
            (omega (arith, mul-add-lt (digits - 1) count r digits (omega arith) small, mul_comm digits count)),
        ap (group_key_at dimensions (column ∷ columns)) is
            ∙ (λ j. digit_member dimensions column (div-mul-add (digits - 1) count r small j)
            ∷ group_key_at dimensions columns (mod-mul-add (digits - 1) count r small j))
            ∙ (λ j. member_at-all dimensions column (digits - 1) (omega (arith, top)) j
            ∷ group_key_at dimensions columns r),
      )
  key_all (column ∷ columns) (suc i) number h below =
      let digits = digit_count dimensions column in
      let count = group_count dimensions columns in
      let d = digit_count dimensions (attr_at columns i) in
      let w = group_count dimensions (drop (suc i) columns) in
      let q = number / count in
      let r = number % count in
      let m = whole_is columns i (omega (arith, h)) in
      let some : 0 < w = some_groups (drop (suc i) columns) in
      let some_digits : 0 < d * w = positive_of m.0 (d * w) (subst (λ n. 0 < n) m.1 (some_groups columns)) in
      let split : number ≡ q * (m.0 * (d * w)) + r = sym (div-add-mod' number count) ∙ ap (λ n. q * n + r) m.1 in
      let image = with_highest d w r in
      let is : with_highest d w number ≡ q * count + image = ap (with_highest d w) split
      ∙ with_highest_more q m.0 d w r some some_digits ∙ ap (λ n. q * n + image) (sym m.1) in
      let rest = key_all columns i r (omega (arith, h)) (mod_below number count (some_groups columns)) in
      let high : q < digits = div_below number count digits (some_groups columns) below in (
        subst (λ n. n < digits * count) (sym is)
            (omega (arith, mul-add-lt q count image digits high rest.0, mul_comm digits count)),
        ap (group_key_at dimensions (column ∷ columns)) is
            ∙ (λ j. digit_member dimensions column (div-mul-add q count image rest.0 j)
            ∷ group_key_at dimensions columns (mod-mul-add q count image rest.0 j))
            ∙ ap (λ others. digit_member dimensions column q ∷ others) rest.1,
      )
    where
      positive_of : (a b : ℕ) → 0 < a * b → 0 < b
      positive_of a b h = positive a b 0 h

  -- the same in the words of columns
  pub digit_at : (columns : List Attr) (i number : ℕ) → i < length columns → number < group_count dimensions columns
      → get_or (group_key_at dimensions columns number) i All ≡ digit_member dimensions (attr_at columns i)
      (digit_of (digit_count dimensions (attr_at columns i)) (weight_at dimensions columns i) number)
  digit_at columns i number h below =
      subst (λ k. get_or (group_key_at dimensions columns number) i All ≡ digit_member dimensions (attr_at columns i)
      (digit_of (digit_count dimensions (attr_at columns i)) (group_count dimensions (drop k columns)) number))
      (sym (add-one i)) (key_digit columns i number h below)

  pub all_at : (columns : List Attr) (i number : ℕ) → i < length columns → number < group_count dimensions columns
      → (with_highest (digit_count dimensions (attr_at columns i)) (weight_at dimensions columns i) number < group_count
      dimensions columns)
      × (group_key_at dimensions columns
      (with_highest (digit_count dimensions (attr_at columns i)) (weight_at dimensions columns i) number)
      ≡ slice_set (group_key_at dimensions columns number) i All)
  all_at columns i number h below =
      subst (λ k.
      (with_highest (digit_count dimensions (attr_at columns i)) (group_count dimensions (drop k columns)) number <
      group_count dimensions columns)
      × (group_key_at dimensions columns
      (with_highest (digit_count dimensions (attr_at columns i)) (group_count dimensions (drop k columns)) number)
      ≡ slice_set (group_key_at dimensions columns number) i All))
      (sym (add-one i)) (key_all columns i number h below)

  pub key_length : (columns : List Attr) (number : ℕ) → length (group_key_at dimensions columns number) ≡ length columns
  key_length [] number = refl
  key_length (column ∷ columns) number = ap suc (key_length columns (number % group_count dimensions columns))

  -- a column and those after it make no more groups than all
  pub weight_within : (columns : List Attr) (i : ℕ) → i < length columns
      → digit_count dimensions (attr_at columns i) * weight_at dimensions columns i ≤ group_count dimensions columns
  weight_within columns i h =
      let m = whole_is columns i h in
      let some = some_groups columns in
      let part = digit_count dimensions (attr_at columns i) * group_count dimensions (drop (suc i) columns) in
      subst (λ k. digit_count dimensions (attr_at columns i) * group_count dimensions (drop k columns) ≤ group_count
      dimensions columns) (sym (add-one i))
      (subst (λ n. part ≤ n) (sym m.1) (at_least m.0 part (subst (λ n. 0 < n) m.1 some)))
    where
      at_least : (a b : ℕ) → 0 < a * b → b ≤ a * b
      at_least zero b h = absurd (omega (arith, h))
      at_least (suc a) b h = omega arith

  -- ---- in the words of a column that is kept
  module _ (columns : List Attr) (i : ℕ) (column : Column) (within : i < length columns)
      (is : IsColumnAt dimensions columns i column) where
    pub column_digits : 0 < column.digits
    column_digits = omega (arith, is.digits)

    pub column_weight : 0 < column.weight
    column_weight = subst (λ n. 0 < n) (sym is.weight) (some_groups (drop (i + 1) columns))

    pub column_whole : column.digits * column.weight ≤ group_count dimensions columns
    column_whole = rw (is.digits, is.weight) (weight_within columns i within)

    module _ (number : ℕ) (below : number < group_count dimensions columns) where
      pub column_digit : get_or (group_key_at dimensions columns number) i All
          ≡ digit_member dimensions (attr_at columns i)
          (digit_of column.digits column.weight number)
      column_digit = rw (is.digits, is.weight) (digit_at columns i number within below)

      pub column_is_all : nat_eq (digit_of column.digits column.weight number) (column.digits - 1)
          ≡ is_all (get_or (group_key_at dimensions columns number) i All)
      column_is_all =
          let attr = attr_at columns i in
          let members = length (attr_members dimensions attr) in
          let digit = digit_of column.digits column.weight number in
          let small : digit < column.digits = mod_below (number / column.weight) column.digits column_digits in
          elim (cases_lt digit members) [
            | inl text ↦
                let test : nat_eq digit (column.digits - 1) ≡ false = let apart : digit ≢ column.digits - 1 =
                omega (arith, is.digits, text) in grind (arith, nat_tests) in
                test ∙ sym (ap is_all (column_digit ∙ member_at-rank dimensions attr digit text))
            | inr all ↦
                let test : nat_eq digit (column.digits - 1) ≡ true = let same : digit ≡ column.digits - 1 =
                omega (arith, is.digits, all, small) in grind (arith, nat_tests) in
                test ∙ sym (ap is_all (column_digit ∙ member_at-all dimensions attr digit all))
          ]

      pub column_all_below : with_highest column.digits column.weight number < group_count dimensions columns
      column_all_below = rw (is.digits, is.weight) (all_at columns i number within below).0

      pub column_all : group_key_at dimensions columns (with_highest column.digits column.weight number)
          ≡ slice_set (group_key_at dimensions columns number) i All
      column_all = rw (is.digits, is.weight) (all_at columns i number within below).1

-- one column more
pub AreColumns-next : (dimensions : DimRows) (attrs : List Attr) (i : ℕ) (columns : List Column) (column : Column)
    → AreColumns dimensions attrs i columns → IsColumnAt dimensions attrs i column
    → AreColumns dimensions attrs (i + 1) (columns ++ column ∷ [])
AreColumns-next dimensions attrs i columns column before is = record {
  counted = omega (arith, length-append columns (column ∷ []), before.counted);
  each = λ k below default. elim (cases_lt k i) [
    | inl low ↦
        subst (IsColumnAt dimensions attrs k)
        (sym (get_or_append_left columns (column ∷ []) default k (omega (arith, low, before.counted))))
        (before.each k low default)
    | inr high ↦
        let here : k ≡ i = omega (arith, below, high) in
        subst (IsColumnAt dimensions attrs k) (sym (get_or_push columns column default k (before.counted ∙ sym here)))
        (subst (λ n. IsColumnAt dimensions attrs n column) (sym here) is)
  ];
}
