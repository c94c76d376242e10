-- Lemmas of `free`, by subject.
use Rattle.std.proofs.Common.{◌≡◌, ℕ, zero, suc, ◌+◌, ◌≤◌, ◌<◌, Bool, false, not, leb, Some, None, List, [], ◌∷◌, ◌++◌}
use Rattle.std.proofs.Common.{length, get_or, take, drop, position, inl, inr, arith, ◌↔◌, ◌⊎◌, sym, ap, ◌∙◌, refl}
use Rattle.std.proofs.Common.{subst, ◌≢◌, AllPairs, Contains, swap, ◌-◌}
use Rattle.std.proofs.lemmas.Bool.{cases_lt, cases_eq}
use Rattle.std.proofs.lemmas.Bool.Decides.{nat_tests}
use Rattle.std.proofs.lemmas.List.Quantifiers.{position-Some}
use Rattle.std.proofs.lemmas.List.Sums.{prefix_len_passes}
use Rattle.std.specs.List.{position_or_len}
use Rattle.extents.specs.declared.extent.Extent.{Extent}
use Rattle.extents.specs.Extents.{Holds, SomeHolds, IsInRange, AreApart, AreLaidOut}
use Rattle.extents.specs.Runs.{AreRuns, gap, IsRest, IsFirstFit, TakesAway}
use Rattle.extents.proofs.Sectors.{in_either, in_front, in_back, lower, bounds, AreRuns-append}
use Rattle.extents.proofs.Gap.{gap_holds, holds_gap, AreRuns-gap}
use Rattle.std.proofs.lemmas.List.{take-append-drop, drop_more, get_or-drop, length-drop}
use Rattle.extents.specs.declared.join.Join.{Join}
use Rattle.extents.specs.Join.{IsJoin, joined_runs}
use Rattle.std.specs.List.Sorted.{IsPermutation}
use Rattle.std.proofs.lemmas.List.Edits.{length-swap, Swapped, swapped_from_swap}
use Rattle.std.proofs.lemmas.List.Sorted.{IsPermutation-keeps, IsPermutation-sym, Contains-permutation, All-permutation}

-- ==== The first run that is long enough, and what is left when its front is taken away.

-- so many sectors in a row, from a first one on, all in the runs
abbrev pub AllHeld : List Extent → ℕ → ℕ → Type 0
AllHeld runs len first = (s : ℕ) → first ≤ s → s < first + len → SomeHolds runs s

-- a run is within the bounds
pub run_within : (low high : ℕ) (runs : List Extent) (k : ℕ) (d : Extent) → AreRuns low high runs → k < length runs
    → (low ≤ (get_or runs k d).first) × (0 < (get_or runs k d).len)
    × ((get_or runs k d).first + (get_or runs k d).len < high)
run_within low high [] k d ok lt = absurd (omega arith)
run_within low high (run ∷ others) zero d ok lt = (ok.0, ok.1, ok.2)
run_within low high (run ∷ others) (suc k) d ok lt =
    let later : (run.first + run.len + 1 ≤ (get_or others k d).first) × (0 < (get_or others k d).len)
    × ((get_or others k d).first + (get_or others k d).len < high)
    = run_within (run.first + run.len + 1) high others k d ok.3 (omega arith) in
    (omega arith, later.1, later.2)

-- the sectors of a run are in the runs
pub run_held : (runs : List Extent) (k : ℕ) (d : Extent) (s : ℕ) → k < length runs → Holds (get_or runs k d) s
    → SomeHolds runs s
run_held [] k d s lt held = absurd (omega arith)
run_held (run ∷ others) zero d s lt held = inl held
run_held (run ∷ others) (suc k) d s lt held = inr (run_held others k d s (omega arith) held)

-- runs begin one after another
pub rise : (low high : ℕ) (runs : List Extent) (i j : ℕ) (d : Extent) → AreRuns low high runs → i ≤ j → j < length runs
    → (get_or runs i d).first ≤ (get_or runs j d).first
rise low high [] i j d ok le lt = absurd (omega arith)
rise low high (run ∷ others) zero zero d ok le lt = omega arith
rise low high (run ∷ others) zero (suc j) d ok le lt = let later =
    run_within (run.first + run.len + 1) high others j d ok.3 (omega arith) in omega arith
rise low high (run ∷ others) (suc i) zero d ok le lt = absurd (omega arith)
rise low high (run ∷ others) (suc i) (suc j) d ok le lt =
    rise (run.first + run.len + 1) high others i j d ok.3 (omega arith) (omega arith)

-- sectors in a row that are all in the runs are in one run
pub in_one_run : (low high : ℕ) (runs : List Extent) (len first : ℕ) (d : Extent) → AreRuns low high runs → 0 < len
    → AllHeld runs len first
    → (k : ℕ) × (k < length runs) × ((get_or runs k d).first ≤ first)
    × (first + len ≤ (get_or runs k d).first + (get_or runs k d).len)
in_one_run low high [] len first d ok some all = absurd (all first (omega arith) (omega arith))
in_one_run low high (run ∷ others) len first d ok some all =
    elim (all first (omega arith) (omega arith)) [
      | inl here ↦ (0, omega arith, here.0, whole here)
      | inr later ↦
          let far = bounds (run.first + run.len + 1) high others first ok.3 later in
          let found = in_one_run (run.first + run.len + 1) high others len first d ok.3 some (rest far.0) in
          (suc found.0, omega (arith, found.1), found.2, found.3)
    ]
  where
    whole : Holds run first → first + len ≤ run.first + run.len
    whole here = elim (cases_lt (run.first + run.len) (first + len)) [
      | inr fits ↦ fits
      | inl past ↦ elim (all (run.first + run.len) (omega arith) past) [
        | inl inside ↦ absurd (omega arith)
        | inr later ↦ let far = bounds (run.first + run.len + 1) high others (run.first + run.len) ok.3 later in
            absurd (omega arith)
      ]
    ]

    rest : run.first + run.len + 1 ≤ first → AllHeld others len first
    rest far s le lt = elim (all s le lt) [ inl here ↦ absurd (omega arith) | inr later ↦ later ]

-- where no run is long enough, each is too short
position_none : (p : Extent → Bool) (runs : List Extent) (k : ℕ) (d : Extent) → position p runs ≡ None → k < length runs
    → p (get_or runs k d) ≡ false
position_none p runs k d none lt =
    elim (cases_lt (position_or_len p runs) (length runs)) [
      | inl found ↦ grind (arith, nat_tests)
      | inr all ↦ let passes = prefix_len_passes (λ x. not (p x)) runs k d (omega arith) in grind (arith, nat_tests)
    ]

module _ (low high len : ℕ) (runs : List Extent) (ok : AreRuns low high runs) (some : 0 < len) where
  -- where no run is long enough, so many sectors in a row are nowhere
  pub no_room : position (λ run. leb len run.len) runs ≡ None → (first : ℕ) → ¬ AllHeld runs len first
  no_room none first all =
      let d : Extent = record { first = 0; len = 0 } in
      let found = in_one_run low high runs len first d ok some all in
      let short = position_none (λ run. leb len run.len) runs found.0 d none found.1 in
      grind (arith, nat_tests)

  module _ (place : ℕ) (d : Extent) (found : position (λ run. leb len run.len) runs ≡ Some place) where
    -- the first run that is long enough is there, and is long enough
    pub in_place : (place < length runs) × (len ≤ (get_or runs place d).len)
    in_place = let at = position-Some (λ run. leb len run.len) runs place d found in (at.0, grind (arith, nat_tests))

    -- its front is in the runs
    pub front_held : AllHeld runs len (get_or runs place d).first
    front_held s le lt = let at = in_place in run_held runs place d s at.0 (le, omega arith)

    -- and no sector before it begins so many in a row
    pub front_first : (first : ℕ) → AllHeld runs len first → (get_or runs place d).first ≤ first
    front_first first all =
        let room = in_one_run low high runs len first d ok some all in
        let at = position-Some (λ run. leb len run.len) runs place d found in
        elim (cases_lt room.0 place) [
          | inl before ↦ let short = at.2 room.0 before in absurd (grind (arith, nat_tests))
          | inr not_before ↦ let risen = rise low high runs place room.0 d ok not_before room.1 in omega arith
        ]

-- the runs with just the back of one left of it
abbrev pub cut_at : List Extent → ℕ → ℕ → ℕ → List Extent
cut_at runs place from to = take place runs ++ (gap from to ++ drop (suc place) runs)

-- they are runs
pub AreRuns-cut_at : (low high len : ℕ) (runs : List Extent) (place : ℕ) (d : Extent) → AreRuns low high runs
    → place < length runs → len ≤ (get_or runs place d).len
    → AreRuns low high
    (cut_at runs place ((get_or runs place d).first + len)
    ((get_or runs place d).first + (get_or runs place d).len))
AreRuns-cut_at low high len [] place d ok lt le = absurd (omega arith)
AreRuns-cut_at low high len (run ∷ others) zero d ok lt le =
    AreRuns-append low (run.first + run.len + 1) high (gap (run.first + len) (run.first + run.len)) others (omega arith)
    (lower low (run.first + len) (run.first + run.len + 1) _ (omega arith)
    (AreRuns-gap (run.first + len) (run.first + run.len))) ok.3 (omega arith)
AreRuns-cut_at low high len (run ∷ others) (suc place) d ok lt le =
    (ok.0, ok.1, ok.2, AreRuns-cut_at (run.first + run.len + 1) high len others place d ok.3 (omega arith) le)

-- a sector in what is left was in the runs, and not in the front
pub cut_held : (low high len : ℕ) (runs : List Extent) (place : ℕ) (d : Extent) (s : ℕ) → AreRuns low high runs
    → place < length runs → len ≤ (get_or runs place d).len
    → SomeHolds
    (cut_at runs place ((get_or runs place d).first + len)
    ((get_or runs place d).first + (get_or runs place d).len)) s
    → SomeHolds runs s × (¬ Holds (record { first = (get_or runs place d).first; len = len }) s)
cut_held low high len [] place d s ok lt le held = absurd (omega arith)
cut_held low high len (run ∷ others) zero d s ok lt le held =
    elim (in_either (gap (run.first + len) (run.first + run.len)) others s held) [
      | inl front ↦ let inside = gap_holds (run.first + len) (run.first + run.len) s front in
          (inl (omega arith, omega arith), λ taken. omega arith)
      | inr later ↦ let far = bounds (run.first + run.len + 1) high others s ok.3 later in
          (inr later, λ taken. omega arith)
    ]
cut_held low high len (run ∷ others) (suc place) d s ok lt le (inl here) =
    let far = run_within (run.first + run.len + 1) high others place d ok.3 (omega arith) in
    (inl here, λ taken. omega arith)
cut_held low high len (run ∷ others) (suc place) d s ok lt le (inr later) =
    let rest = cut_held (run.first + run.len + 1) high len others place d s ok.3 (omega arith) le later in
    (inr rest.0, rest.1)

-- a sector of the runs that is not in the front is in what is left
pub held_cut : (len : ℕ) (runs : List Extent) (place : ℕ) (d : Extent) (s : ℕ) → place < length runs → SomeHolds runs s
    → (¬ Holds (record { first = (get_or runs place d).first; len = len }) s)
    → SomeHolds
    (cut_at runs place ((get_or runs place d).first + len)
    ((get_or runs place d).first + (get_or runs place d).len)) s
held_cut len [] place d s lt held apart = absurd held
held_cut len (run ∷ others) zero d s lt (inl here) apart =
    elim (cases_lt s (run.first + len)) [
      | inl inside ↦ absurd (apart (here.0, inside))
      | inr after ↦
          in_front (gap (run.first + len) (run.first + run.len)) others s
          (holds_gap (run.first + len) (run.first + run.len) s after here.1)
    ]
held_cut len (run ∷ others) zero d s lt (inr later) apart =
    in_back (gap (run.first + len) (run.first + run.len)) others s later
held_cut len (run ∷ others) (suc place) d s lt (inl here) apart = inl here
held_cut len (run ∷ others) (suc place) d s lt (inr later) apart =
    inr (held_cut len others place d s (omega arith) later apart)

-- ==== What an extent becomes when it is joined with the runs that touch it.

-- runs end one after another
pub rise_ends : (low high : ℕ) (runs : List Extent) (i j : ℕ) (d : Extent) → AreRuns low high runs → i ≤ j
    → j < length runs
    → (get_or runs i d).first + (get_or runs i d).len ≤ (get_or runs j d).first + (get_or runs j d).len
rise_ends low high [] i j d ok le lt = absurd (omega arith)
rise_ends low high (run ∷ others) zero zero d ok le lt = omega arith
rise_ends low high (run ∷ others) zero (suc j) d ok le lt = let later =
    run_within (run.first + run.len + 1) high others j d ok.3 (omega arith) in omega arith
rise_ends low high (run ∷ others) (suc i) zero d ok le lt = absurd (omega arith)
rise_ends low high (run ∷ others) (suc i) (suc j) d ok le lt =
    rise_ends (run.first + run.len + 1) high others i j d ok.3 (omega arith) (omega arith)

-- the first runs, which end before a sector
pub front_below : (low high mid : ℕ) (runs : List Extent) (n : ℕ) → AreRuns low high runs → n ≤ length runs
    → ((k : ℕ) (d : Extent) → k < n → (get_or runs k d).first + (get_or runs k d).len < mid)
    → AreRuns low mid (take n runs)
front_below low high mid runs zero ok le ends = tt
front_below low high mid [] (suc n) ok le ends = tt
front_below low high mid (run ∷ others) (suc n) ok le ends = (
  ok.0,
  ok.1,
  ends 0 run (omega arith),
  front_below (run.first + run.len + 1) high mid others n ok.3 (omega arith)
      (λ k d lt. ends (suc k) d (omega arith)),
)

-- the runs before one, and those after it
pub front_at : (low high : ℕ) (runs : List Extent) (n : ℕ) (d : Extent) → AreRuns low high runs → n < length runs
    → AreRuns low (get_or runs n d).first (take n runs)
front_at low high [] n d ok lt = absurd (omega arith)
front_at low high (run ∷ others) zero d ok lt = tt
front_at low high (run ∷ others) (suc n) d ok lt =
    let later = run_within (run.first + run.len + 1) high others n d ok.3 (omega arith) in
    (ok.0, ok.1, omega arith, front_at (run.first + run.len + 1) high others n d ok.3 (omega arith))

pub back_at : (low high : ℕ) (runs : List Extent) (n : ℕ) (d : Extent) → AreRuns low high runs → n < length runs
    → AreRuns ((get_or runs n d).first + (get_or runs n d).len + 1) high (drop (suc n) runs)
back_at low high [] n d ok lt = absurd (omega arith)
back_at low high (run ∷ others) zero d ok lt = ok.3
back_at low high (run ∷ others) (suc n) d ok lt = back_at (run.first + run.len + 1) high others n d ok.3 (omega arith)

pub back_from : (low high : ℕ) (runs : List Extent) (n : ℕ) → AreRuns low high runs → AreRuns low high (drop n runs)
back_from low high runs zero ok = ok
back_from low high [] (suc n) ok = tt
back_from low high (run ∷ others) (suc n) ok =
    back_from low high others n (lower low (run.first + run.len + 1) high others (omega arith) ok.3)

-- runs that have none of the sectors up to another begin at that one or after it
pub raise : (low mid high : ℕ) (runs : List Extent) → AreRuns low high runs
    → ((s : ℕ) → low ≤ s → s < mid → ¬ SomeHolds runs s) → AreRuns mid high runs
raise low mid high [] ok none = tt
raise low mid high (run ∷ others) ok none = (
  elim (cases_lt run.first mid) [
    | inl early ↦ absurd (none run.first ok.0 early (inl (omega arith, omega arith)))
    | inr late ↦ late
  ],
  ok.1,
  ok.2,
  ok.3,
)

-- runs that have no sector of an extent, and end after its first one, begin after it
pub after_extent : (low high : ℕ) (extent : Extent) (runs : List Extent) → AreRuns low high runs → 0 < extent.len
    → ((s : ℕ) → Holds extent s → ¬ SomeHolds runs s)
    → ((d : Extent) → 0 < length runs → extent.first < (get_or runs 0 d).first + (get_or runs 0 d).len)
    → AreRuns (extent.first + extent.len) high runs
after_extent low high extent [] ok some apart ends = tt
after_extent low high extent (run ∷ others) ok some apart ends = (
  elim (cases_lt run.first (extent.first + extent.len)) [
    | inr late ↦ late
    | inl early ↦ elim (cases_lt extent.first run.first) [
      | inl inside ↦ absurd (apart run.first (omega arith, early) (inl (omega arith, omega arith)))
      | inr before ↦ let end : extent.first < run.first + run.len = ends run (omega arith) in
          absurd (apart extent.first (omega arith, omega arith) (inl (before, end)))
    ]
  ],
  ok.1,
  ok.2,
  ok.3,
)

-- the sectors of runs with one between them
pub held_parts : (front back : List Extent) (run : Extent) (s : ℕ) → SomeHolds (front ++ run ∷ back) s
    → SomeHolds front s ⊎ (Holds run s ⊎ SomeHolds back s)
held_parts front back run s held = in_either front (run ∷ back) s held

pub parts_held : (front back : List Extent) (run : Extent) (s : ℕ) → SomeHolds front s
    ⊎ (Holds run s ⊎ SomeHolds back s) → SomeHolds (front ++ run ∷ back) s
parts_held front back run s (inl before) = in_front front (run ∷ back) s before
parts_held front back run s (inr rest) = in_back front (run ∷ back) s rest

-- a list is what is before a place, at it and after it
pub split_at : (runs : List Extent) (n : ℕ) (d : Extent) → n < length runs
    → take n runs ++ get_or runs n d ∷ drop (n + 1) runs ≡ runs
split_at runs n d lt = ap (λ rest. take n runs ++ rest) (sym (drop_more runs n d lt)) ∙ take-append-drop n runs

-- one run for two that touch, before and after which there are others
pub joins : (front back : List Extent) (a b both : Extent) (s : ℕ) → a.first + a.len ≡ b.first → both.first ≡ a.first
    → both.len ≡ a.len + b.len
    → SomeHolds (front ++ both ∷ back) s ↔ (SomeHolds front s ⊎ ((Holds a s ⊎ Holds b s) ⊎ SomeHolds back s))
joins front back a b both s touch first len = (there, back_again)
  where
    in_two : Holds both s → Holds a s ⊎ Holds b s
    in_two held = elim (cases_lt s b.first) [
      | inl before ↦ inl (omega arith, omega arith)
      | inr after ↦ inr (after, omega arith)
    ]

    in_one : Holds a s ⊎ Holds b s → Holds both s
    in_one (inl held) = (omega arith, omega arith)
    in_one (inr held) = (omega arith, omega arith)

    there : SomeHolds (front ++ both ∷ back) s → SomeHolds front s ⊎ ((Holds a s ⊎ Holds b s) ⊎ SomeHolds back s)
    there held = elim (held_parts front back both s held) [
      | inl before ↦ inl before
      | inr rest ↦ elim rest [ inl here ↦ inr (inl (in_two here)) | inr after ↦ inr (inr after) ]
    ]

    back_again : SomeHolds front s ⊎ ((Holds a s ⊎ Holds b s) ⊎ SomeHolds back s) → SomeHolds (front ++ both ∷ back) s
    back_again (inl before) = parts_held front back both s (inl before)
    back_again (inr (inl here)) = parts_held front back both s (inr (inl (in_one here)))
    back_again (inr (inr after)) = parts_held front back both s (inr (inr after))

-- ==== What an extent is joined to, at the place where it is given back.

module _ (count : ℕ) (runs : List Extent) (ok : AreRuns 2 (count + 1) runs) (extent : Extent)
    (in_range : IsInRange count extent) (in_use : (s : ℕ) → Holds extent s → ¬ SomeHolds runs s) (place : ℕ) where
  -- the extent with the run that ends where it begins
  module _ (run : Extent) (lt : place < length runs) (read : run ≡ get_or runs place run)
      (touch : run.first + run.len ≡ extent.first) where
    abbrev pub touching : Join
    touching = record {
      joined = record { first = run.first; len = run.len + extent.len };
      place = place;
      after = place + 1;
    }

    whole : take place runs ++ run ∷ drop (place + 1) runs ≡ runs
    whole = ap (λ r. take place runs ++ r ∷ drop (place + 1) runs) read ∙ split_at runs place run lt

    within : (2 ≤ run.first) × (0 < run.len) × (run.first + run.len < count + 1)
    within = subst (λ (x : Extent). (2 ≤ x.first) × (0 < x.len) × (x.first + x.len < count + 1)) (sym read)
        (run_within 2 (count + 1) runs place run ok lt)

    -- the runs after it have no sector of the extent
    none_after : (s : ℕ) → run.first + run.len + 1 ≤ s → s < extent.first + extent.len
        → ¬ SomeHolds (drop (place + 1) runs) s
    none_after s low high held =
        in_use s (omega arith, high)
        (subst (λ xs. SomeHolds xs s) whole
        (parts_held (take place runs) (drop (place + 1) runs) run s (inr (inr held))))

    after : AreRuns (run.first + run.len + 1) (count + 1) (drop (place + 1) runs)
    after =
        let next : suc place ≡ place + 1 = omega arith in
        subst (λ (x : Extent). AreRuns (x.first + x.len + 1) (count + 1) (drop (place + 1) runs)) (sym read)
        (subst (λ n. AreRuns ((get_or runs place run).first + (get_or runs place run).len + 1) (count + 1)
        (drop n runs)) next (back_at 2 (count + 1) runs place run ok lt))

    pub IsJoin-touching : IsJoin 0 (record { count = count; runs = runs }) touching
    IsJoin-touching = record {
      in_range = record { begins = within.0; not_empty = omega (arith, within); ends = omega (arith, in_range.ends) };
      order = omega arith;
      few = omega arith;
      within = omega arith;
      front = subst (λ (x : Extent). AreRuns 2 x.first (take place runs)) (sym read)
          (front_at 2 (count + 1) runs place run ok lt);
      back =
          let end : run.first + (run.len + extent.len) + 0 ≡ extent.first + extent.len = omega arith in
          subst (λ n. AreRuns n (count + 1) (drop (place + 1) runs)) (sym end)
          (raise (run.first + run.len + 1) (extent.first + extent.len) (count + 1) (drop (place + 1) runs) after
          none_after);
    }

    pub sectors-touching : (s : ℕ) → SomeHolds (joined_runs runs touching) s ↔ (SomeHolds runs s ⊎ Holds extent s)
    sectors-touching s = (there, back_again)
      where
        both : SomeHolds (joined_runs runs touching) s
            ↔ (SomeHolds (take place runs) s ⊎ ((Holds run s ⊎ Holds extent s) ⊎ SomeHolds (drop (place + 1) runs) s))
        both = joins (take place runs) (drop (place + 1) runs) run extent touching.joined s touch refl refl

        old : SomeHolds (take place runs) s ⊎ (Holds run s ⊎ SomeHolds (drop (place + 1) runs) s) → SomeHolds runs s
        old held = subst (λ xs. SomeHolds xs s) whole (parts_held (take place runs) (drop (place + 1) runs) run s held)

        there : SomeHolds (joined_runs runs touching) s → SomeHolds runs s ⊎ Holds extent s
        there held = elim (both.0 held) [
          | inl before ↦ inl (old (inl before))
          | inr rest ↦ elim rest [
            | inl here ↦ elim here [ inl in_run ↦ inl (old (inr (inl in_run))) | inr given ↦ inr given ]
            | inr later ↦ inl (old (inr (inr later)))
          ]
        ]

        back_again : SomeHolds runs s ⊎ Holds extent s → SomeHolds (joined_runs runs touching) s
        back_again (inr given) = both.1 (inr (inl (inr given)))
        back_again (inl held) =
            elim (held_parts (take place runs) (drop (place + 1) runs) run s
            (subst (λ xs. SomeHolds xs s) (sym whole) held)) [
              | inl before ↦ both.1 (inl before)
              | inr rest ↦ elim rest [
                | inl in_run ↦ both.1 (inr (inl (inl in_run)))
                | inr later ↦ both.1 (inr (inr later))
              ]
            ]

  -- the extent alone, where no run ends where it begins
  module _ (le : place ≤ length runs) (before : (k : ℕ) (d : Extent) → k < place
      → (get_or runs k d).first + (get_or runs k d).len < extent.first) (ends : (d : Extent) → place < length runs
      → extent.first < (get_or runs place d).first + (get_or runs place d).len) where
    abbrev pub alone : Join
    alone = record { joined = extent; place = place; after = place }

    head_ends : (d : Extent) → 0 < length (drop place runs)
        → extent.first < (get_or (drop place runs) 0 d).first + (get_or (drop place runs) 0 d).len
    head_ends d some =
        let at : get_or (drop place runs) 0 d ≡ get_or runs place d = get_or-drop place runs 0 d
        ∙ ap (λ n. get_or runs n d) (omega arith) in
        subst (λ (x : Extent). extent.first < x.first + x.len) (sym at) (ends d (omega (arith, length-drop place runs)))

    pub IsJoin-alone : IsJoin 0 (record { count = count; runs = runs }) alone
    IsJoin-alone = record {
      in_range = in_range;
      order = omega arith;
      few = omega arith;
      within = le;
      front = front_below 2 (count + 1) extent.first runs place ok le before;
      back =
          let end : extent.first + extent.len + 0 ≡ extent.first + extent.len = omega arith in
          subst (λ n. AreRuns n (count + 1) (drop place runs)) (sym end)
          (after_extent 2 (count + 1) extent (drop place runs) (back_from 2 (count + 1) runs place ok)
          in_range.not_empty
          (λ s given held. in_use s given
          (subst (λ xs. SomeHolds xs s) (take-append-drop place runs)
          (in_back (take place runs) (drop place runs) s held))) head_ends);
    }

    pub sectors-alone : (s : ℕ) → SomeHolds (joined_runs runs alone) s ↔ (SomeHolds runs s ⊎ Holds extent s)
    sectors-alone s = (there, back_again)
      where
        there : SomeHolds (joined_runs runs alone) s → SomeHolds runs s ⊎ Holds extent s
        there held = elim (held_parts (take place runs) (drop place runs) extent s held) [
          | inl first ↦
              inl (subst (λ xs. SomeHolds xs s) (take-append-drop place runs)
              (in_front (take place runs) (drop place runs) s first))
          | inr rest ↦ elim rest [
            | inl given ↦ inr given
            | inr later ↦
                inl (subst (λ xs. SomeHolds xs s) (take-append-drop place runs)
                (in_back (take place runs) (drop place runs) s later))
          ]
        ]

        back_again : SomeHolds runs s ⊎ Holds extent s → SomeHolds (joined_runs runs alone) s
        back_again (inr given) = parts_held (take place runs) (drop place runs) extent s (inr (inl given))
        back_again (inl held) =
            elim (in_either (take place runs) (drop place runs) s
            (subst (λ xs. SomeHolds xs s) (sym (take-append-drop place runs)) held)) [
              | inl first ↦ parts_held (take place runs) (drop place runs) extent s (inl first)
              | inr later ↦ parts_held (take place runs) (drop place runs) extent s (inr (inr later))
            ]

-- the join is a run among the others
pub AreRuns-joined : (count : ℕ) (runs : List Extent) (join : Join)
    → IsJoin 1 (record { count = count; runs = runs }) join → AreRuns 2 (count + 1) (joined_runs runs join)
AreRuns-joined count runs join is =
    AreRuns-append 2 join.joined.first (count + 1) (take join.place runs) (join.joined ∷ drop join.after runs)
    (omega (arith, is.in_range.ends)) is.front
    (omega arith, is.in_range.not_empty, omega (arith, is.in_range.ends), is.back) is.in_range.begins

-- a run ends within the count
pub run_ends : (count : ℕ) (runs : List Extent) (place : ℕ) (run : Extent) → AreRuns 2 (count + 1) runs
    → place < length runs → run ≡ get_or runs place run → run.first + run.len ≤ count
run_ends count runs place run ok lt read =
    let within = run_within 2 (count + 1) runs place run ok lt in
    let end : run.first + run.len < count + 1 =
    subst (λ (x : Extent). x.first + x.len < count + 1) (sym read) within.2 in
    omega arith

-- the run that begins where a join ends goes into it, and no sector is lost or won
pub sectors-extended : (runs : List Extent) (join : Join) (run : Extent) → join.after < length runs
    → run ≡ get_or runs join.after run → join.joined.first + join.joined.len ≡ run.first → (s : ℕ)
    → SomeHolds
    (joined_runs runs
    (record {
      joined = record { first = join.joined.first; len = join.joined.len + run.len };
      place = join.place;
      after = join.after + 1;
    })) s
    ↔ SomeHolds (joined_runs runs join) s
sectors-extended runs join run lt read touch s = (there, back_again)
  where
    both : SomeHolds (take join.place runs ++ record { first = join.joined.first; len = join.joined.len + run.len }
        ∷ drop (join.after + 1) runs) s
        ↔ (SomeHolds (take join.place runs) s
        ⊎ ((Holds join.joined s ⊎ Holds run s) ⊎ SomeHolds (drop (join.after + 1) runs) s))
    both = joins (take join.place runs) (drop (join.after + 1) runs) join.joined run
        (record { first = join.joined.first; len = join.joined.len + run.len }) s touch refl refl

    rest : drop join.after runs ≡ run ∷ drop (join.after + 1) runs
    rest = drop_more runs join.after run lt ∙ ap (λ x. x ∷ drop (join.after + 1) runs) (sym read)

    there : SomeHolds (take join.place runs ++ record { first = join.joined.first; len = join.joined.len + run.len }
        ∷ drop (join.after + 1) runs) s → SomeHolds (joined_runs runs join) s
    there held = elim (both.0 held) [
      | inl before ↦ parts_held (take join.place runs) (drop join.after runs) join.joined s (inl before)
      | inr others ↦ elim others [
        | inl here ↦ elim here [
          | inl in_join ↦ parts_held (take join.place runs) (drop join.after runs) join.joined s (inr (inl in_join))
          | inr in_run ↦
              parts_held (take join.place runs) (drop join.after runs) join.joined s
              (inr (inr (subst (λ xs. SomeHolds xs s) (sym rest) (inl in_run))))
        ]
        | inr later ↦
            parts_held (take join.place runs) (drop join.after runs) join.joined s
            (inr (inr (subst (λ xs. SomeHolds xs s) (sym rest) (inr later))))
      ]
    ]

    tail : SomeHolds (run ∷ drop (join.after + 1) runs) s → (Holds join.joined s ⊎ Holds run s)
        ⊎ SomeHolds (drop (join.after + 1) runs) s
    tail (inl in_run) = inl (inr in_run)
    tail (inr later) = inr later

    back_again : SomeHolds (joined_runs runs join) s
        → SomeHolds (take join.place runs ++ record { first = join.joined.first; len = join.joined.len + run.len }
        ∷ drop (join.after + 1) runs) s
    back_again held = elim (held_parts (take join.place runs) (drop join.after runs) join.joined s held) [
      | inl before ↦ both.1 (inl before)
      | inr others ↦ elim others [
        | inl in_join ↦ both.1 (inr (inl (inl in_join)))
        | inr after ↦ both.1 (inr (tail (subst (λ xs. SomeHolds xs s) rest after)))
      ]
    ]

-- ==== Extents in another order hold the same sectors, and are laid out alike.

-- the extent that holds a sector
holder : (xs : List Extent) (s : ℕ) → SomeHolds xs s → (e : Extent) × Contains xs e × Holds e s
holder [] s held = absurd held
holder (x ∷ xs) s (inl here) = (x, (0, omega arith, refl), here)
holder (x ∷ xs) s (inr later) = let found = holder xs s later in
    (found.0, (suc found.1.0, omega (arith, found.1.1), found.1.2), found.2)

pub SomeHolds-permutation : (xs ys : List Extent) (s : ℕ) → IsPermutation xs ys → SomeHolds xs s → SomeHolds ys s
SomeHolds-permutation xs ys s same held =
    let found = holder xs s held in
    let there = Contains-permutation xs ys found.0 same found.1 in
    run_held ys there.0 found.0 s there.1 (subst (λ (x : Extent). Holds x s) (sym there.2) found.2)

-- two extents at different places are apart
apart_at : (xs : List Extent) (i j : ℕ) (d : Extent) → AllPairs AreApart xs → i < length xs → j < length xs → i ≢ j
    → AreApart (get_or xs i d) (get_or xs j d)
apart_at xs i j d all i_lt j_lt differ = elim (cases_lt i j) [
  | inl below ↦ all i j d below j_lt
  | inr not_below ↦ λ s here there. all j i d (omega arith) i_lt s there here
]

-- where the item at a place was before a swap
abbrev pub Stood : ℕ → ℕ → ℕ → ℕ → Type 0
Stood i j m n = ((m ≡ i) × (n ≡ j)) ⊎ (((m ≡ j) × (n ≡ i)) ⊎ ((m ≢ i) × (m ≢ j) × (n ≡ m)))

stood : (xs : List Extent) (i j m : ℕ) (d : Extent) → i < length xs → j < length xs → m < length xs
    → (n : ℕ) × (n < length xs) × Stood i j m n × (get_or (swap xs i j) m d ≡ get_or xs n d)
stood xs i j m d i_lt j_lt m_lt =
    let swapped : Swapped (λ k. get_or xs k d) (λ k. get_or (swap xs i j) k d) i j =
    swapped_from_swap xs (swap xs i j) i j d i_lt j_lt refl in
    elim (cases_eq m i) [
      | inl at ↦ (j, j_lt, inl (at, refl), subst (λ k. get_or (swap xs i j) k d ≡ get_or xs j d) (sym at) swapped.0)
      | inr not_i ↦ elim (cases_eq m j) [
        | inl at ↦ (
          i,
          i_lt,
          inr (inl (at, refl)),
          subst (λ k. get_or (swap xs i j) k d ≡ get_or xs i d) (sym at)
              swapped.1,
        )
        | inr not_j ↦ (m, m_lt, inr (inr (not_i, not_j, refl)), swapped.2 m not_i not_j)
      ]
    ]

stood_apart : (i j m n p q : ℕ) → m ≢ n → Stood i j m p → Stood i j n q → p ≢ q
stood_apart i j m n p q differ (inl a) (inl b) same = omega arith
stood_apart i j m n p q differ (inl a) (inr (inl b)) same = omega arith
stood_apart i j m n p q differ (inl a) (inr (inr b)) same = omega arith
stood_apart i j m n p q differ (inr (inl a)) (inl b) same = omega arith
stood_apart i j m n p q differ (inr (inl a)) (inr (inl b)) same = omega arith
stood_apart i j m n p q differ (inr (inl a)) (inr (inr b)) same = omega arith
stood_apart i j m n p q differ (inr (inr a)) (inl b) same = omega arith
stood_apart i j m n p q differ (inr (inr a)) (inr (inl b)) same = omega arith
stood_apart i j m n p q differ (inr (inr a)) (inr (inr b)) same = omega arith

apart_swap : (xs : List Extent) (i j : ℕ) → i < length xs → j < length xs → AllPairs AreApart xs
    → AllPairs AreApart (swap xs i j)
apart_swap xs i j i_lt j_lt all m n d below within =
    let n_lt : n < length xs = subst (λ k. n < k) (length-swap xs i j) within in
    let p = stood xs i j m d i_lt j_lt (omega arith) in
    let q = stood xs i j n d i_lt j_lt n_lt in
    subst (λ (x : Extent). AreApart x (get_or (swap xs i j) n d)) (sym p.3)
    (subst (λ (y : Extent). AreApart (get_or xs p.0 d) y) (sym q.3)
    (apart_at xs p.0 q.0 d all p.1 q.1 (stood_apart i j m n p.0 q.0 (λ same. omega arith) p.2 q.2)))

-- the order of extents says nothing about whether they are laid out
pub AreLaidOut-permutation : (count : ℕ) (xs ys : List Extent) → IsPermutation xs ys → AreLaidOut count xs
    → AreLaidOut count ys
AreLaidOut-permutation count xs ys same ok = record {
  in_range = All-permutation (IsInRange count) xs ys same ok.in_range;
  apart = IsPermutation-keeps xs (AllPairs AreApart) ok.apart apart_swap ys same;
}

-- nor about the sectors that they leave
pub IsRest-permutation : (count : ℕ) (xs ys runs : List Extent) → IsPermutation xs ys → IsRest count ys runs
    → IsRest count xs runs
IsRest-permutation count xs ys runs same rest s = (
  λ held. let inside = (rest s).0 held in
      (inside.0, inside.1, λ used. inside.2 (SomeHolds-permutation xs ys s same used)),
  λ inside. (rest s).1
      (inside.0, inside.1, λ used. inside.2 (SomeHolds-permutation ys xs s (IsPermutation-sym xs ys same) used)),
)

-- ==== What the front of the first run that is long enough is, and what taking it away leaves.

module _ (count len place : ℕ) (runs : List Extent) (run : Extent) (ok : AreRuns 2 (count + 1) runs) (some : 0 < len)
    (found : position (λ run. leb len run.len) runs ≡ Some place) (read : run ≡ get_or runs place run) where
  -- the run is long enough, and ends within the count
  pub fits : (2 ≤ run.first) × (len ≤ run.len) × (run.first + run.len ≤ count) × (place < length runs)
  fits =
      let at = in_place 2 (count + 1) len runs ok some place run found in
      let within = run_within 2 (count + 1) runs place run ok at.0 in
      let long : len ≤ run.len = subst (λ (x : Extent). len ≤ x.len) (sym read) at.1 in
      let bounds : (2 ≤ run.first) × (0 < run.len) × (run.first + run.len < count + 1) =
      subst (λ (x : Extent). (2 ≤ x.first) × (0 < x.len) × (x.first + x.len < count + 1)) (sym read) within in
      (bounds.0, long, omega arith, at.0)

  pub taken_in_range : IsInRange count (record { first = run.first; len = len })
  taken_in_range = let f = fits in record { begins = f.0; not_empty = some; ends = omega arith }

  -- its front is the first place where so many sectors in a row are free
  pub taken_first_fit : IsFirstFit (record { count = count; runs = runs }) len (record { first = run.first; len = len })
  taken_first_fit = record {
    asked = refl;
    free_sectors =
        subst (λ (x : Extent). AllHeld runs len x.first) (sym read)
        (front_held 2 (count + 1) len runs ok some place run found);
    none_before = subst (λ (x : Extent). (first : ℕ) → AllHeld runs len first → x.first ≤ first) (sym read)
        (front_first 2 (count + 1) len runs ok some place run found);
  }

  module _ (new : List Extent)
      (is : new ≡ take place runs
      ++ (gap (run.first + len) (run.first + len + (run.len - len)) ++ drop (place + 1) runs)) where
    new_is : new ≡ cut_at runs place (run.first + len) (run.first + run.len)
    new_is =
        let f = fits in
        let to : run.first + len + (run.len - len) ≡ run.first + run.len = omega arith in
        let next : place + 1 ≡ suc place = omega arith in
        is ∙ ap (λ n. take place runs ++ (gap (run.first + len) n ++ drop (place + 1) runs)) to
        ∙ ap (λ n. take place runs ++ (gap (run.first + len) (run.first + run.len) ++ drop n runs)) next

    pub taken_runs : AreRuns 2 (count + 1) new
    taken_runs =
        let f = fits in
        rw new_is (subst (λ (x : Extent). AreRuns 2 (count + 1) (cut_at runs place (x.first + len) (x.first + x.len)))
        (sym read)
        (AreRuns-cut_at 2 (count + 1) len runs place run ok f.3 (subst (λ (x : Extent). len ≤ x.len) read f.1)))

    pub taken_away : TakesAway (record { count = count; runs = runs }) (record { first = run.first; len = len })
        (record { count = count; runs = new })
    taken_away = record { count = refl; sectors = λ s. (there s, back s) }
      where
        there : (s : ℕ) → SomeHolds new s → SomeHolds runs s × (¬ Holds (record { first = run.first; len = len }) s)
        there s held =
            let f = fits in
            subst (λ (x : Extent). SomeHolds (cut_at runs place (x.first + len) (x.first + x.len)) s
            → SomeHolds runs s × (¬ Holds (record { first = x.first; len = len }) s)) (sym read)
            (cut_held 2 (count + 1) len runs place run s ok f.3 (subst (λ (x : Extent). len ≤ x.len) read f.1))
            (subst (λ xs. SomeHolds xs s) new_is held)

        back : (s : ℕ) → SomeHolds runs s × (¬ Holds (record { first = run.first; len = len }) s) → SomeHolds new s
        back s held =
            let f = fits in
            subst (λ xs. SomeHolds xs s) (sym new_is)
            (subst (λ (x : Extent). (¬ Holds (record { first = x.first; len = len }) s)
            → SomeHolds (cut_at runs place (x.first + len) (x.first + x.len)) s) (sym read)
            (held_cut len runs place run s f.3 held.0) held.1)
