-- What a walk over extents in the order of their first sectors leaves free.
use Rattle.std.proofs.Common.{◌≡◌, ℕ, zero, suc, ◌+◌, ◌≤◌, ◌<◌, List, [], ◌∷◌, ◌++◌, length, get_or, drop, All}
use Rattle.std.proofs.Common.{AllPairs, inl, inr, sym, ap, ◌∙◌, arith}
use Rattle.std.proofs.lemmas.List.{drop_more, drop_all}
use Rattle.std.specs.List.Sorted.{IsNonDecreasingBy}
use Rattle.std.proofs.lemmas.Bool.{cases_lt}
use Rattle.extents.specs.declared.extent.Extent.{Extent}
use Rattle.extents.specs.Extents.{SomeHolds, IsInRange, AreLaidOut, AreApart}
use Rattle.extents.specs.Runs.{AreRuns, gap, IsRest}
use Rattle.extents.proofs.Gap.{gap_holds, holds_gap, AreRuns-gap}
use Rattle.extents.proofs.Sectors.{in_either, in_front, in_back, lower, AreRuns-append}

-- extents in ascending order that begin at a sector or after it, none empty and none past the count
abbrev pub AreInOrder : ℕ → ℕ → List Extent → Type 0
AreInOrder count from [] = Unit {0}
AreInOrder count from (extent ∷ others) =
    (from ≤ extent.first) × (0 < extent.len) × (extent.first + extent.len ≤ count)
    × AreInOrder count (extent.first + extent.len) others

-- the runs that they leave
abbrev pub gaps_of : ℕ → ℕ → List Extent → List Extent
gaps_of count from [] = gap from count
gaps_of count from (extent ∷ others) = gap from extent.first ++ gaps_of count (extent.first + extent.len) others

-- the runs are in order
pub AreRuns-gaps_of : (count from : ℕ) (extents : List Extent) → AreInOrder count from extents
    → AreRuns from (count + 1) (gaps_of count from extents)
AreRuns-gaps_of count from [] ok = AreRuns-gap from count
AreRuns-gaps_of count from (extent ∷ others) ok =
    AreRuns-append from (extent.first + 1) (count + 1) (gap from extent.first)
    (gaps_of count (extent.first + extent.len) others)
    (omega arith) (AreRuns-gap from extent.first)
    (lower (extent.first + 1) (extent.first + extent.len) (count + 1) _ (omega arith)
    (AreRuns-gaps_of count (extent.first + extent.len) others ok.3)) (omega arith)

-- a sector of extents in order is at the first or after it
at_or_after : (count from : ℕ) (extents : List Extent) (s : ℕ) → AreInOrder count from extents → SomeHolds extents s
    → from ≤ s
at_or_after count from [] s ok held = absurd held
at_or_after count from (extent ∷ others) s ok (inl here) = omega arith
at_or_after count from (extent ∷ others) s ok (inr held) =
    let later : extent.first + extent.len ≤ s = at_or_after count (extent.first + extent.len) others s ok.3 held in
    omega arith

-- a sector of the gaps is in none of the extents
gaps_hold : (count from : ℕ) (extents : List Extent) (s : ℕ) → AreInOrder count from extents
    → SomeHolds (gaps_of count from extents) s
    → (from ≤ s) × (s < count) × (¬ SomeHolds extents s)
gaps_hold count from [] s ok held = let inside = gap_holds from count s held in (inside.0, inside.1, λ none. none)
gaps_hold count from (extent ∷ others) s ok held =
    elim (in_either (gap from extent.first) (gaps_of count (extent.first + extent.len) others) s held) [
      | inl front ↦ before (gap_holds from extent.first s front)
      | inr back ↦ after (gaps_hold count (extent.first + extent.len) others s ok.3 back)
    ]
  where
    before : (from ≤ s) × (s < extent.first) → (from ≤ s) × (s < count) × (¬ SomeHolds (extent ∷ others) s)
    before inside = (inside.0, omega arith, apart)
      where
        apart : ¬ SomeHolds (extent ∷ others) s
        apart (inl here) = omega arith
        apart (inr held) = let later : extent.first + extent.len ≤ s =
            at_or_after count (extent.first + extent.len) others s ok.3 held in omega arith

    after : (extent.first + extent.len ≤ s) × (s < count) × (¬ SomeHolds others s) → (from ≤ s) × (s < count)
        × (¬ SomeHolds (extent ∷ others) s)
    after inside = (omega arith, inside.1, apart)
      where
        apart : ¬ SomeHolds (extent ∷ others) s
        apart (inl here) = omega arith
        apart (inr held) = inside.2 held

-- a sector that is in none of the extents is in the gaps
in_gaps : (count from : ℕ) (extents : List Extent) (s : ℕ) → from ≤ s → s < count → (¬ SomeHolds extents s)
    → SomeHolds (gaps_of count from extents) s
in_gaps count from [] s le lt none = holds_gap from count s le lt
in_gaps count from (extent ∷ others) s le lt none =
    elim (cases_lt s extent.first) [
      | inl before ↦ in_front (gap from extent.first) _ s (holds_gap from extent.first s le before)
      | inr at ↦ elim (cases_lt s (extent.first + extent.len)) [
        | inl inside ↦ absurd (none (inl (at, inside)))
        | inr after ↦
            in_back (gap from extent.first) _ s
            (in_gaps count (extent.first + extent.len) others s after lt (λ held. none (inr held)))
      ]
    ]

-- the gaps are just the sectors that lie in none of the extents
pub IsRest-gaps_of : (count : ℕ) (extents : List Extent) → AreInOrder count 2 extents
    → IsRest count extents (gaps_of count 2 extents)
IsRest-gaps_of count extents ok s =
    (gaps_hold count 2 extents s ok, λ inside. in_gaps count 2 extents s inside.0 inside.1 inside.2)

-- each extent of a list in order begins at the sector or after it
begins : (count from : ℕ) (extents : List Extent) (k : ℕ) (d : Extent) → AreInOrder count from extents
    → k < length extents → from ≤ (get_or extents k d).first
begins count from [] k d ok lt = absurd (omega arith)
begins count from (extent ∷ others) zero d ok lt = ok.0
begins count from (extent ∷ others) (suc k) d ok lt =
    let later : extent.first + extent.len ≤ (get_or others k d).first =
    begins count (extent.first + extent.len) others k d ok.3 (omega arith) in omega arith

in_range : (count from : ℕ) (extents : List Extent) → 2 ≤ from → AreInOrder count from extents
    → All (IsInRange count) extents
in_range count from [] two ok k d lt = absurd (omega arith)
in_range count from (extent ∷ others) two ok zero d lt = record { begins = omega arith; not_empty = ok.1; ends = ok.2 }
in_range count from (extent ∷ others) two ok (suc k) d lt =
    in_range count (extent.first + extent.len) others (omega arith) ok.3 k d (omega arith)

apart : (count from : ℕ) (extents : List Extent) → AreInOrder count from extents → AllPairs AreApart extents
apart count from [] ok i j d lt within = absurd (omega arith)
apart count from (extent ∷ others) ok i zero d lt within = absurd (omega arith)
apart count from (extent ∷ others) ok zero (suc j) d lt within = λ s here there.
    let later : extent.first + extent.len ≤ (get_or others j d).first =
    begins count (extent.first + extent.len) others j d ok.3 (omega arith) in omega arith
apart count from (extent ∷ others) ok (suc i) (suc j) d lt within =
    apart count (extent.first + extent.len) others ok.3 i j d (omega arith) (omega arith)

-- extents in order may be held together
pub AreLaidOut-from_order : (count : ℕ) (extents : List Extent) → AreInOrder count 2 extents → AreLaidOut count extents
AreLaidOut-from_order count extents ok =
    record { in_range = in_range count 2 extents (omega arith) ok; apart = apart count 2 extents ok }

-- extents that may be held together, and rise, are in order
order_from : (count from : ℕ) (extents : List Extent) → IsNonDecreasingBy (λ extent. extent.first) extents
    → AreLaidOut count extents
    → ((d : Extent) → 0 < length extents → from ≤ (get_or extents 0 d).first) → AreInOrder count from extents
order_from count from [] rise ok first = tt
order_from count from (extent ∷ others) rise ok first = (
  first extent (omega arith),
  here.not_empty,
  here.ends,
  order_from count (extent.first + extent.len) others
      (λ i j d le lt. rise (suc i) (suc j) d (omega arith) (omega arith))
      (record {
        in_range = λ k d lt. ok.in_range (suc k) d (omega arith);
        apart = λ i j d le lt. ok.apart (suc i) (suc j) d (omega arith) (omega arith);
      })
      next,
)
  where
    here : IsInRange count extent
    here = ok.in_range 0 extent (omega arith)

    next : (d : Extent) → 0 < length others → extent.first + extent.len ≤ (get_or others 0 d).first
    next d some = elim (cases_lt (get_or others 0 d).first (extent.first + extent.len)) [
      | inl inside ↦
          let risen : extent.first ≤ (get_or others 0 d).first = rise 0 1 d (omega arith) (omega arith) in
          let there : IsInRange count (get_or others 0 d) = ok.in_range 1 d (omega arith) in
          absurd (ok.apart 0 1 d (omega arith) (omega arith) (get_or others 0 d).first (risen, inside)
          (omega arith, omega (arith, there.not_empty)))
      | inr after ↦ after
    ]

pub order_from_layout : (count : ℕ) (extents : List Extent) → IsNonDecreasingBy (λ extent. extent.first) extents
    → AreLaidOut count extents → AreInOrder count 2 extents
order_from_layout count extents rise ok =
    order_from count 2 extents rise ok
    (λ d some. let here : IsInRange count (get_or extents 0 d) = ok.in_range 0 d some in here.begins)

-- what is left at the end of the walk is in order
pub in_order_at_end : (count from at : ℕ) (extents : List Extent) → length extents ≤ at
    → AreInOrder count from (drop at extents)
in_order_at_end count from at extents end = rw (drop_all at extents end) tt

-- the walk at its end has the gaps
pub gaps_at_end : (count from at : ℕ) (extents runs new : List Extent) → length extents ≤ at
    → runs ++ gaps_of count from (drop at extents) ≡ gaps_of count 2 extents → new ≡ runs ++ gap from count
    → new ≡ gaps_of count 2 extents
gaps_at_end count from at extents runs new end so_far added = added
    ∙ ap (λ rest. runs ++ gaps_of count from rest) (sym (drop_all at extents end)) ∙ so_far

-- the next extent of a walk that is in order
pub next_in_order : (count from at : ℕ) (extents : List Extent) → at < length extents
    → AreInOrder count from (drop at extents)
    → (d : Extent) → (from ≤ (get_or extents at d).first) × (0 < (get_or extents at d).len)
    × ((get_or extents at d).first + (get_or extents at d).len ≤ count)
next_in_order count from at extents lt ok d = let here = rw (drop_more extents at d lt) at ok in
    (here.0, here.1, here.2)
