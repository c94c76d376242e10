-- Lemmas of `order_laws`, by subject.
use Rattle.std.proofs.Common.{◌≡◌, ◌∙◌, ℕ, ◌≤◌, max, ℤ, pos, ◌*ℤ◌, arith, sym, ap, refl, subst, zero, suc, ◌<◌, List}
use Rattle.std.proofs.Common.{[], ◌∷◌, map, length, slice_index_or, Option, Some, None, inl, inr}
use Rattle.std.specs.declared.cmp.Ordering.TheVariants.{Equal, Less, Greater}
use Rattle.std.specs.Ordering.{int_cmp, nat_cmp, ordering_then}
use Rattle.std.specs.Cmp.{alike_right, int_cmp_total, tied_itself, nat_cmp_total}
use Rattle.cube_model.specs.declared.answer.Fraction.{Fraction}
use Rattle.cube_model.specs.Fractions.{IsFractionOf, fraction_of}
use Rattle.cube_model.specs.Lawful.{FractionIsTheOne, AnswerIsTheOne, IsAnswer}
use Rattle.report_formats.specs.OrderLawful.{AveragesSortAlike, AnswersAreSorted}
use Rattle.report_formats.specs.Sorting.{fraction_cmp, sorting_cmp}
use Rattle.report_formats.proofs.SizeOrder.{fraction_cmp_total}
use Rattle.std.specs.List.{All, AllByRecursion, range_with_len}
use Rattle.std.specs.List.Sorted.{IsPermutation}
use Rattle.std.specs.declared.cmp.Ordering.{Ordering}
use Rattle.std.proofs.lemmas.Bool.{cases_order}
use Rattle.std.proofs.lemmas.List.Sorted.{All-permutation, IsPermutation-map}
use Rattle.cube_model.specs.Answers.{answer, line_of}
use Rattle.cube_model.specs.Ascending.{IsAscending}
use Rattle.cube_model.proofs.Ascending.{IsAscending-ascending}
use Rattle.cube_model.specs.declared.answer.Line.{Line}
use Rattle.cube_model.specs.declared.answer.Member.{Member}
use Rattle.cube_model.specs.declared.answer.Member.TheVariants.{All as Any}
use Rattle.cube_model.specs.declared.answer.Value.{Value}
use Rattle.cube_model.specs.declared.answer.Value.TheVariants.{Whole, Ratio}
use Rattle.cube_model.specs.declared.query.Order.{Order}
use Rattle.cube_model.specs.Keys.{key_cmp}
use Rattle.cube_model.proofs.KeyOrder.{member_cmp_total}
use Rattle.cube_model.proofs.KeyOrder.{key_cmp_total, key_cmp-IsAntisymmetric}
use Rattle.cube_model.proofs.LawsLemmas.{last_ties}
use Rattle.cube_model.specs.Orders.{answer_cmp, value_cmp}
use Rattle.cube_model.specs.Selection.{selected}
use Rattle.group_tallies.specs.GroupLines.{line_at}
use Rattle.report_formats.specs.declared.arrangement.Sorting.{Sorting}
use Rattle.report_formats.specs.Arranging.{place_cmp, sorted_places}
use Rattle.report_formats.proofs.Comparisons.{place_cmp_total, place_cmp-IsAntisymmetric}
use Rattle.report_formats.proofs.Inserted.{at_each, from_each}
use Rattle.report_formats.proofs.Places.{IsPermutation-sorted_places, all_lines, range_below}

-- ==== Averages compare as their sums over their counts.

-- a sum over a count as it is
abbrev over : ℤ → ℕ → Fraction
over sum count = record { numerator = sum; denominator = count }

some_or_one : (n : ℕ) → 1 ≤ n → max n 1 ≡ n
some_or_one n above = omega (arith, above)

same_size : FractionIsTheOne → (sum : ℤ) (count : ℕ) → 1 ≤ count → fraction_cmp (fraction_of sum count) (over sum count)
    ≡ Equal
same_size the_one sum count above =
    let found : Fraction = fraction_of sum count in
    let is : IsFractionOf sum count found = (the_one sum count above).0 in
    (λ i. int_cmp (found.numerator *ℤ pos (some_or_one count above i))
    (sum *ℤ pos (some_or_one found.denominator is.positive i)))
    ∙ (λ i. int_cmp (is.equal i) (sum *ℤ pos found.denominator))
    ∙ tied_itself int_cmp_total (sum *ℤ pos found.denominator)

pub averages_sort_alike : FractionIsTheOne → AveragesSortAlike
averages_sort_alike the_one sum other count many above others =
    fraction_cmp_total.congr (fraction_of sum count) (over sum count) (fraction_of other many)
    (same_size the_one sum count above)
    ∙ alike_right fraction_cmp_total (fraction_of other many) (over other many) (over sum count)
    (same_size the_one other many others)

-- ==== The lines of an answer, sorted.

value_ties : (value : Value) → value_cmp value value ≡ Equal
value_ties (Whole number) = tied_itself int_cmp_total number
value_ties (Ratio fraction) = refl

-- a line is not below itself
line_ties : (order : Option Order) (line : Line) → answer_cmp order line line ≡ Equal
line_ties None line = tied_itself key_cmp_total line.key
line_ties (Some order) line =
    λ i. ordering_then (tied_itself member_cmp_total (slice_index_or line.key order.column Any) i)
    (ordering_then (value_ties (slice_index_or line.values order.aggregate (Whole (pos 0))) i)
    (tied_itself key_cmp_total line.key i))

-- items in order, by their places
ascending_pairs : {X : Type 0} (R : X → X → Ordering) (xs : List X) (d : X) → IsAscending R xs → (i j : ℕ) → i < j
    → j < length xs
    → R (slice_index_or xs i d) (slice_index_or xs j d) ≡ Less
ascending_pairs R [] d sorted i j below h = absurd (omega (arith, h))
ascending_pairs R (x ∷ xs) d sorted i zero below h = absurd (omega (arith, below))
ascending_pairs R (x ∷ xs) d sorted zero (suc j) below h =
    at_each (λ y. R x y ≡ Less) xs sorted.0 j d (omega (arith, h))
ascending_pairs R (x ∷ xs) d sorted (suc i) (suc j) below h =
    ascending_pairs R xs d sorted.1 i j (omega (arith, below)) (omega (arith, h))

module _ (sorting : Sorting) (lines : List Line) (differ : (i j : ℕ) → i < j → j < length lines
    → key_cmp (line_at lines i).key (line_at lines j).key ≡ Equal → ⊥) where
  -- places of which neither is after the other are one
  one_place : (i j : ℕ) → i < length lines → j < length lines → key_cmp (line_at lines i).key (line_at lines j).key
      ≡ Equal → i ≡ j
  one_place i j h k e = elim (cases_order i j) [
    | inl same ↦ same
    | inr (inl below) ↦ absurd (differ i j below k e)
    | inr (inr above) ↦ absurd (differ j i above h (tied_back i j e))
  ]
    where
      tied_back : (i j : ℕ) → key_cmp (line_at lines i).key (line_at lines j).key ≡ Equal
          → key_cmp (line_at lines j).key (line_at lines i).key ≡ Equal
      tied_back i j e =
          subst (λ key. key_cmp key (line_at lines i).key ≡ Equal)
          (key_cmp-IsAntisymmetric (line_at lines i).key (line_at lines j).key e)
          (tied_itself key_cmp_total (line_at lines i).key)

  less_by_line : (i j : ℕ) → i < length lines → j < length lines → (r : Ordering)
      → sorting_cmp sorting (line_at lines i) (line_at lines j) ≡ r
      → ordering_then r (nat_cmp i j) ≡ Less → r ≡ Less
  less_by_line i j h k Less e less = refl
  less_by_line i j h k Greater e less = less
  less_by_line i j h k Equal e less =
      let same : i ≡ j = one_place i j h k (last_ties _ _ e) in
      absurd (let tie : nat_cmp i j ≡ Equal = subst (λ place. nat_cmp i place ≡ Equal) same
      (tied_itself nat_cmp_total i) in cc (tie, less))

  lines_rise : (places : List ℕ) → AllByRecursion (λ place. place < length lines) places
      → IsAscending (place_cmp sorting lines) places
      → IsAscending (sorting_cmp sorting) (map (line_at lines) places)
  lines_rise [] below sorted = tt
  lines_rise (place ∷ places) below sorted = (each places below.1 sorted.0, lines_rise places below.1 sorted.1)
    where
      each : (others : List ℕ) → AllByRecursion (λ other. other < length lines) others
          → AllByRecursion (λ other. place_cmp sorting lines place other ≡ Less) others
          → AllByRecursion (λ line. sorting_cmp sorting (line_at lines place) line ≡ Less) (map (line_at lines) others)
      each [] within less = tt
      each (other ∷ others) within less = (
        less_by_line place other below.0 within.0 (sorting_cmp sorting (line_at lines place) (line_at lines other))
            refl less.0,
        each others within.1 less.1,
      )

  pub sorted_lines : IsPermutation lines (map (line_at lines) (sorted_places sorting lines))
      × IsAscending (sorting_cmp sorting) (map (line_at lines) (sorted_places sorting lines))
  sorted_lines =
      let all = range_with_len 0 (length lines) in
      let moved : IsPermutation all (sorted_places sorting lines) = IsPermutation-sorted_places sorting lines in
      let within : AllByRecursion (λ place. place < length lines) (sorted_places sorting lines) =
      from_each (λ place. place < length lines) (sorted_places sorting lines)
      (All-permutation (λ place. place < length lines) all (sorted_places sorting lines) moved
      (at_each (λ place. place < length lines) all (range_below (length lines)))) in (
        subst (λ found. IsPermutation found (map (line_at lines) (sorted_places sorting lines))) (all_lines lines)
            (IsPermutation-map (line_at lines) all (sorted_places sorting lines) moved),
        lines_rise (sorted_places sorting lines) within
            (IsAscending-ascending (place_cmp sorting lines) (place_cmp_total sorting lines)
            (place_cmp-IsAntisymmetric sorting lines) all),
      )

pub answers_are_sorted : AnswerIsTheOne → AnswersAreSorted
answers_are_sorted the_one query dimensions rows sorting =
    let lines = (answer query dimensions rows).lines in
    let are : IsAnswer query dimensions rows lines = (the_one query dimensions rows).0 in
    let none : Line = record { key = []; values = [] } in
    let own : List Member → Line = line_of dimensions query (selected dimensions query.conditions rows) in
    sorted_lines sorting lines
    (λ i j below h tie.
    let keys : (line_at lines i).key ≡ (line_at lines j).key =
    key_cmp-IsAntisymmetric (line_at lines i).key (line_at lines j).key tie in
    let at : All (λ line. line ≡ own line.key) lines = at_each (λ line. line ≡ own line.key) lines are.aggregates in
    let one : line_at lines i ≡ line_at lines j = at i none (omega (arith, below, h)) ∙ ap own keys
    ∙ sym (at j none h) in
    let less : answer_cmp query.order (line_at lines i) (line_at lines j) ≡ Less =
    ascending_pairs (answer_cmp query.order) lines none are.in_order i j below h in
    let ties : answer_cmp query.order (line_at lines i) (line_at lines j) ≡ Equal =
    subst (λ line. answer_cmp query.order (line_at lines i) line ≡ Equal) one
    (line_ties query.order (line_at lines i)) in
    absurd (cc (less, ties)))
