-- Lines whose keys differ, sorted, are those lines in order.
use Rattle.std.proofs.Common.{◌≡◌, ◌∙◌, sym, ap, refl, subst, ◌+◌, Bool, true, false, cond, Option, Some, None}
use Rattle.std.proofs.Common.{List, [], ◌∷◌, map, get_or, arith}
use Rattle.std.specs.List.{AllByRecursion, IsDistinct}
use Rattle.std.specs.List.Sorted.{IsPermutation, IsSortedBy}
use Rattle.std.specs.Cmp.{IsTotalOrder, on_total}
use Rattle.std.specs.FinMap.{IsAntisymmetric}
use Rattle.std.specs.Ordering.{eq_by_cmp, is_eq, is_lt, on, ordering_reverse}
use Rattle.std.specs.declared.cmp.Ordering.{Ordering}
use Rattle.std.specs.declared.cmp.Ordering.TheVariants.{Less, Equal, Greater}
use Rattle.std.proofs.Math.ListN.{get_or-map}
use Rattle.std.proofs.lemmas.Cmp.{eq_by_cmp_equiv}
use Rattle.std.proofs.lemmas.List.{length-map}
use Rattle.std.proofs.lemmas.List.Sorted.{All-permutation, IsPermutation-map}
use Rattle.cube_model.specs.declared.answer.Line.{Line}
use Rattle.cube_model.specs.declared.answer.Member.{Member}
use Rattle.cube_model.specs.declared.answer.Value.{Value}
use Rattle.cube_model.specs.declared.query.Order.{Order}
use Rattle.cube_model.specs.Ascending.{IsAscending, ascending, by_order, insert_once}
use Rattle.cube_model.specs.Keys.{key_cmp}
use Rattle.cube_model.proofs.KeyOrder.{key_cmp_total, key_cmp-IsAntisymmetric}
use Rattle.cube_model.proofs.LawsLemmas.{answer_cmp_total, last_ties}
use Rattle.cube_model.specs.Orders.{answer_cmp, line_cmp}
use Rattle.partial_reports.specs.Merges.{keys_in, line_of_key}
use Rattle.report_formats.proofs.Inserted.{ascending-sorted, at_each, from_each}

abbrev values_in : Option Line → List Value
values_in None = []
values_in (Some line) = line.values

abbrev same_key : List Member → List Member → Bool
same_key = eq_by_cmp key_cmp

same_key-refl : (key : List Member) → same_key key key ≡ true
same_key-refl key = (eq_by_cmp_equiv key_cmp_total).refl key

-- a key after another is not that one
not_before : (key other : List Member) → key_cmp key other ≡ Less → same_key other key ≡ false
not_before key other less = ap is_eq (key_cmp_total.antisymm other key ∙ ap ordering_reverse less)

further : (line : Line) (lines others : List Line) → AllByRecursion (λ other. answer_cmp None line other ≡ Less) others
    → AllByRecursion (λ other. line_of_key other.key lines ≡ Some other) others
    → AllByRecursion (λ other. line_of_key other.key (line ∷ lines) ≡ Some other) others
further line lines [] above all = tt
further line lines (other ∷ others) above all = (
  ap (λ b. cond b (Some line) (line_of_key other.key lines)) (not_before line.key other.key above.0) ∙ all.0,
  further line lines others above.1 all.1,
)

-- lines in the order of their keys are found by their keys
found : (lines : List Line) → IsAscending (answer_cmp None) lines
    → AllByRecursion (λ line. line_of_key line.key lines ≡ Some line) lines
found [] rise = tt
found (line ∷ lines) rise = (
  ap (λ b. cond b (Some line) (line_of_key line.key lines)) (same_key-refl line.key),
  further line lines lines rise.0 (found lines rise.1),
)

module _ (order : Order) (all : List Line) where
  -- the line of a key
  abbrev own : List Member → Line
  own key = record { key = key; values = values_in (line_of_key key all) }

  -- the order of the lines, as one of their keys
  abbrev by_line : List Member → List Member → Ordering
  by_line = on own (line_cmp order)

  by_line_total : IsTotalOrder by_line
  by_line_total = on_total own (answer_cmp_total (Some order))

  by_line_same : IsAntisymmetric by_line
  by_line_same left right e = key_cmp-IsAntisymmetric left right (last_ties _ _ (last_ties _ _ e))

  insert_once-map : (key : List Member) (keys : List (List Member))
      → insert_once (line_cmp order) (own key) (map own keys) ≡ map own (insert_once by_line key keys)
  insert_once-map key [] = refl
  insert_once-map key (first ∷ others) =
      elim (by_line key first) as
      (λ r. by_order r (own key ∷ own first ∷ map own others) (own first ∷ map own others)
      (own first ∷ insert_once (line_cmp order) (own key) (map own others))
      ≡ map own (by_order r (key ∷ first ∷ others) (first ∷ others) (first ∷ insert_once by_line key others))) [
        | Less ↦ refl
        | Equal ↦ refl
        | Greater ↦ ap (λ lines. own first ∷ lines) (insert_once-map key others)
      ]

  ascending-map : (keys : List (List Member))
      → ascending (line_cmp order) (map own keys) ≡ map own (ascending by_line keys)
  ascending-map [] = refl
  ascending-map (key ∷ keys) = ap (insert_once (line_cmp order) (own key)) (ascending-map keys)
      ∙ insert_once-map key (ascending by_line keys)

  -- keys of which one is below the other differ
  apart : (key other : List Member) → key_cmp key other ≡ Less → (r : Ordering) → by_line key other ≡ r
      → is_eq r ≡ false
  apart key other less Less e = refl
  apart key other less Greater e = refl
  apart key other less Equal e =
      absurd (let ties : key_cmp key other ≡ Equal = last_ties _ _ (last_ties _ _ e) in cc (less, ties))

  apart_all : (line : Line) (lines : List Line) → AllByRecursion (λ other. answer_cmp None line other ≡ Less) lines
      → AllByRecursion (λ other. eq_by_cmp by_line line.key other ≡ false) (keys_in lines)
  apart_all line [] above = tt
  apart_all line (other ∷ lines) above =
      (apart line.key other.key above.0 (by_line line.key other.key) refl, apart_all line lines above.1)

  distinct : (lines : List Line) → IsAscending (answer_cmp None) lines → IsDistinct (eq_by_cmp by_line) (keys_in lines)
  unfolding IsDistinct
  distinct [] rise = tt
  distinct (line ∷ lines) rise = (apart_all line lines rise.0, distinct lines rise.1)

  -- lines are those of their keys
  own_lines : (lines : List Line) → AllByRecursion (λ line. line_of_key line.key all ≡ Some line) lines
      → map own (keys_in lines) ≡ lines
  own_lines [] are = refl
  own_lines (line ∷ lines) are = λ i. record { key = line.key; values = values_in (are.0 i) } ∷ own_lines lines are.1 i

  keys_sorted : (keys : List (List Member)) → IsSortedBy (λ x y. is_lt (line_cmp order x y)) (map own keys)
      → IsSortedBy (λ x y. is_lt (by_line x y)) keys
  keys_sorted keys sorted k d low high =
      let one : get_or (map own keys) (k + 1) (own d) ≡ own (get_or keys (k + 1) d) = get_or-map own keys (k + 1) d in
      let other : get_or (map own keys) k (own d) ≡ own (get_or keys k d) = get_or-map own keys k d in
      sym (λ i. is_lt (line_cmp order (one i) (other i)))
      ∙ sorted k (own d) low (omega (arith, high, length-map keys own))

  -- lines in the order of their keys, sorted
  pub sorted_lines : IsAscending (answer_cmp None) all → (lines : List Line) → IsPermutation all lines
      → IsSortedBy (λ x y. is_lt (line_cmp order x y)) lines
      → lines ≡ ascending (line_cmp order) all
  sorted_lines rise lines moved sorted =
      let is : Line → Type 0 = λ line. line_of_key line.key all ≡ Some line in
      let here : AllByRecursion is all = found all rise in
      let there : AllByRecursion is lines =
      from_each is lines (All-permutation is all lines moved (at_each is all here)) in
      let lines_are : map own (keys_in lines) ≡ lines = own_lines lines there in
      let keys : keys_in lines ≡ ascending by_line (keys_in all) =
      ascending-sorted by_line by_line_total by_line_same (keys_in all) (keys_in lines) (distinct all rise)
      (IsPermutation-map (λ line. line.key) all lines moved)
      (keys_sorted (keys_in lines) (subst (IsSortedBy (λ x y. is_lt (line_cmp order x y))) (sym lines_are) sorted)) in
      sym lines_are ∙ ap (map own) keys ∙ sym (ascending-map (keys_in all))
      ∙ ap (ascending (line_cmp order)) (own_lines all here)
