-- The places of lines, and the lines at them.
use Rattle.std.proofs.Common.{◌≡◌, ◌∙◌, sym, ap, refl, subst, ℕ, zero, suc, ◌+◌, ◌<◌, ◌≤◌, min, take, Option, Some}
use Rattle.std.proofs.Common.{None, List, [], ◌∷◌, length, map, get_or, add-one, arith}
use Rattle.std.specs.List.{All, AllByRecursion, range_with_len}
use Rattle.std.specs.Option.{unwrap_or}
use Rattle.std.proofs.lemmas.List.{length-map, take_all, take_min}
use Rattle.std.proofs.lemmas.List.FromFn.{length-range_with_len}
use Rattle.std.proofs.lemmas.List.Sorted.{All-permutation, length_permutation}
use Rattle.std.specs.List.Sorted.{IsPermutation, IsSortedBy}
use Rattle.std.specs.Ordering.{is_lt}
use Rattle.cube_model.specs.declared.answer.Line.{Line}
use Rattle.group_tallies.specs.GroupLines.{line_at}
use Rattle.report_formats.specs.declared.arrangement.Sorting.{Sorting}
use Rattle.report_formats.specs.Arranging.{arranged, limited, lines_at, place_cmp, places_for, sorted_places}
use Rattle.report_formats.proofs.Comparisons.{place_cmp_total, place_cmp-IsAntisymmetric}
use Rattle.report_formats.proofs.Inserted.{at_each, IsDistinct-range, IsPermutation-ascending, ascending-sorted}

-- the places of all lines, sorted
pub sorted_places_are : (sorting : Sorting) (lines : List Line) (places : List ℕ)
    → IsPermutation (range_with_len 0 (length lines)) places
    → IsSortedBy (λ left right. is_lt (place_cmp sorting lines left right)) places
    → places ≡ sorted_places sorting lines
sorted_places_are sorting lines places moved sorted =
    ascending-sorted (place_cmp sorting lines) (place_cmp_total sorting lines) (place_cmp-IsAntisymmetric sorting lines)
    (range_with_len 0 (length lines)) places
    (IsDistinct-range (place_cmp sorting lines) (place_cmp-IsAntisymmetric sorting lines) 0 (length lines)) moved sorted

pub IsPermutation-sorted_places : (sorting : Sorting) (lines : List Line)
    → IsPermutation (range_with_len 0 (length lines)) (sorted_places sorting lines)
IsPermutation-sorted_places sorting lines =
    IsPermutation-ascending (place_cmp sorting lines) (place_cmp_total sorting lines) (range_with_len 0 (length lines))
    (IsDistinct-range (place_cmp sorting lines) (place_cmp-IsAntisymmetric sorting lines) 0 (length lines))

-- each of the places is below their number
each_below : (a n end : ℕ) → a + n ≡ end → AllByRecursion (λ place. place < end) (range_with_len a n)
each_below a zero end e = tt
each_below a (suc n) end e = (omega (arith, e), each_below (a + 1) n end (omega (arith, e)))

pub range_below : (n : ℕ) → AllByRecursion (λ place. place < n) (range_with_len 0 n)
range_below n = each_below 0 n n (omega arith)

module _ {X : Type 0} where
  shifted : (f : ℕ → X) (a n : ℕ) → map f (range_with_len (a + 1) n) ≡ map (λ place. f (suc place)) (range_with_len a n)
  shifted f a zero = refl
  shifted f a (suc n) = λ i. f (add-one a i) ∷ shifted f (a + 1) n i

  -- the items at all places are all items
  pub all_items : (items : List X) (d : X) → map (λ place. get_or items place d) (range_with_len 0 (length items))
      ≡ items
  all_items [] d = refl
  all_items (item ∷ items) d =
      ap (λ rest. item ∷ rest) (shifted (λ place. get_or (item ∷ items) place d) 0 (length items) ∙ all_items items d)

pub all_lines : (lines : List Line) → map (line_at lines) (range_with_len 0 (length lines)) ≡ lines
all_lines lines = all_items lines (record { key = []; values = [] })

-- ---- arranged lines
length-lines_at : (sorting : Option Sorting) (lines : List Line) → length (lines_at (places_for sorting lines) lines)
    ≡ length lines
length-lines_at None lines = refl
length-lines_at (Some sorting) lines =
    length-map (sorted_places sorting lines) (line_at lines)
    ∙ length_permutation (range_with_len 0 (length lines)) (sorted_places sorting lines)
    (IsPermutation-sorted_places sorting lines)
    ∙ length-range_with_len 0 (length lines)

pub limited_fits : (limit : Option ℕ) (sorting : Option Sorting) (lines : List Line)
    → limited limit (length lines) ≤ length (lines_at (places_for sorting lines) lines)
limited_fits None sorting lines = omega (arith, length-lines_at sorting lines)
limited_fits (Some limit) sorting lines = omega (arith, length-lines_at sorting lines)

pub places_below : (sorting : Option Sorting) (lines : List Line) (places : List ℕ)
    → places_for sorting lines ≡ Some places → All (λ place. place < length lines) places
places_below None lines places e = absurd cc
places_below (Some sorting) lines places e =
    let all = range_with_len 0 (length lines) in
    let below : ℕ → Type 0 = λ place. place < length lines in
    let same : sorted_places sorting lines ≡ places = ap (λ found. unwrap_or found []) e in
    subst (All below) same
    (All-permutation below all (sorted_places sorting lines) (IsPermutation-sorted_places sorting lines)
    (at_each below all (range_below (length lines))))

pub taken : (limit : Option ℕ) (sorting : Option Sorting) (lines : List Line)
    → take (limited limit (length lines)) (lines_at (places_for sorting lines) lines)
    ≡ arranged (record { sorting = sorting; limit = limit }) lines
taken None sorting lines =
    take_all (length lines) (lines_at (places_for sorting lines) lines) (omega (arith, length-lines_at sorting lines))
taken (Some limit) sorting lines =
    ap (λ count. take (min limit count) (lines_at (places_for sorting lines) lines))
    (sym (length-lines_at sorting lines))
    ∙ take_min limit (lines_at (places_for sorting lines) lines)
