-- The ship modes of stored batches, one batch more.
use Rattle.std.proofs.Common.{◌≡◌, ◌⊎◌, inl, inr, ◌∙◌, ap, sym, refl, subst, arith, add-one, ℕ, zero, suc, ◌+◌, ◌-◌}
use Rattle.std.proofs.Common.{◌<◌, ◌≤◌, nat_le}
use Rattle.std.proofs.Common.{if◌then◌else◌, Bool, true, false, Option, Some, None, List, [], ◌∷◌, ◌++◌, length, take}
use Rattle.std.proofs.Common.{drop}
use Rattle.std.proofs.Common.{slice_get, length-append, take-append-drop}
use Rattle.std.specs.Prelude.{codes, is_some}
use Rattle.std.specs.Option.{option_map}
use Rattle.std.specs.Str.{bytes_eq}
use Rattle.std.proofs.lemmas.Bool.Decides.{nat_tests}
use Rattle.std.proofs.lemmas.Grind.{flat_map-append}
use Rattle.std.proofs.lemmas.List.{append_assoc, length-map, map-append, take_all}
use Rattle.std.proofs.lemmas.List.Quantifiers.{position-Some}
use Rattle.cube_model.specs.declared.fault.Fault.{Fault}
use Rattle.cube_model.specs.declared.fault.Fault.TheVariants.{Memory, ReservedMember, TooManyMembers}
use Rattle.cube_model.specs.declared.fault.MemberPlace.{MemberPlace}
use Rattle.cube_model.specs.declared.fault.MemberPlace.TheVariants.{InBatch, InStoredBatch}
use Rattle.cube_model.specs.declared.rows.LineOrder.{LineOrder}
use Rattle.cube_model.specs.Admission.{all_rows}
use Rattle.cube_model.specs.Causes.{first_cause}
use Rattle.cube_model.specs.ShipModes.{crowded_place, modes_cause, modes_in, reserved_place}
use Rattle.dictionary.specs.Dictionary.{firsts}
use Rattle.warehouse_root.specs.declared.layout.Layout.TheVariants.{First}
use Rattle.warehouse_objects.specs.Migration.{migration_refusal, place_after}
use Rattle.warehouse_objects.proofs.Batches.{rows_next, some_one}
use Rattle.batch_admission.specs.ShipModes.{row_number_at}
use Rattle.stored_rows.specs.Gathered.{IsGathered, modes_before}
use Rattle.stored_rows.specs.declared.gathering.Gathered.{Gathered}
use Rattle.stored_rows.proofs.Firsts.{crowded_append, crowded_within, later_by, or_later, position_append}

-- a row of the batch after so many others
place_at : (done : ℕ) (batches : List (List LineOrder)) (before row : ℕ) (batch : List LineOrder)
    → slice_get batches before ≡ Some batch → 1 ≤ row → row ≤ length batch
    → place_after done batches (length (all_rows (take before batches)) + row) ≡ InStoredBatch (done + before + 1) row
place_at done [] before row batch here some within = absurd cc
place_at done (first ∷ batches) zero row batch here some within =
    let same : first ≡ batch = some_one first batch here in
    let test : nat_le row (length first) ≡ true =
    grind (arith, nat_tests, within, ap (λ (l : List LineOrder). length l) same) in
    let number : done + 1 ≡ done + 0 + 1 = omega arith in
    let at : length {A = LineOrder} [] + row ≡ row = omega arith in
    ap (place_after done (first ∷ batches)) at
    ∙ ap (λ (b : Bool). if b then InStoredBatch (done + 1) row else place_after (done + 1) batches (row - length first))
    test
    ∙ ap (λ (n : ℕ). InStoredBatch n row) number
place_at done (first ∷ batches) (suc before) row batch here some within =
    let others : ℕ = length (all_rows (take before batches)) in
    let many : length (first ++ all_rows (take before batches)) ≡ length first + others =
    length-append first (all_rows (take before batches)) in
    let at : ℕ = length (first ++ all_rows (take before batches)) + row in
    let test : nat_le at (length first) ≡ false = grind (arith, nat_tests, some, many) in
    let left : at - length first ≡ others + row = omega (arith, many) in
    let number : done + 1 + before + 1 ≡ done + suc before + 1 = omega arith in
    ap (λ (b : Bool). if b then InStoredBatch (done + 1) at else place_after (done + 1) batches (at - length first))
    test
    ∙ ap (place_after (done + 1) batches) left
    ∙ place_at (done + 1) batches before row batch here some within
    ∙ ap (λ (n : ℕ). InStoredBatch n row) number

-- what a layout with ship modes is refused for, by the first place of each kind
abbrev pub cause_at : List (List LineOrder) → Option ℕ → Option ℕ → Option Fault
cause_at batches reserved crowded = first_cause (
    option_map (λ place. ReservedMember (place_after 0 batches (place + 1))) reserved
    ∷ option_map (λ place. TooManyMembers (place_after 0 batches (place + 1))) crowded ∷ [])

module _ (batches : List (List LineOrder)) (before : ℕ) (batch : List LineOrder)
    (here : slice_get batches before ≡ Some batch) where
  abbrev earlier : List (List ℕ)
  earlier = modes_before batches before

  abbrev own : List (List ℕ)
  own = modes_in batch

  more : modes_before batches (before + 1) ≡ earlier ++ own
  more =
      ap (modes_before batches) (add-one before)
      ∙ ap modes_in (rows_next batches before batch here)
      ∙ map-append (λ (row : LineOrder). row.shipmode) (all_rows (take before batches)) batch

  abbrev others : List (List ℕ)
  others = modes_in (all_rows (drop (suc before) batches))

  whole : modes_in (all_rows batches) ≡ earlier ++ (own ++ others)
  whole =
      ap (λ (l : List (List LineOrder)). modes_in (all_rows l)) (sym (take-append-drop (suc before) batches))
      ∙ ap modes_in
      (flat_map-append (λ (b : List LineOrder). b) (take (suc before) batches) (drop (suc before) batches))
      ∙ map-append (λ (row : LineOrder). row.shipmode) (all_rows (take (suc before) batches))
      (all_rows (drop (suc before) batches))
      ∙ ap (λ (l : List (List ℕ)). l ++ others) (ap (modes_before batches) (sym (add-one before)) ∙ more)
      ∙ append_assoc earlier own others

  many : length earlier ≡ length (all_rows (take before batches))
  many = length-map (all_rows (take before batches)) (λ (row : LineOrder). row.shipmode)

  place_of : (place : ℕ) → place < length own → place_after 0 batches (length earlier + place + 1)
      ≡ InStoredBatch (before + 1) (place + 1)
  place_of place within =
      let bound : place + 1 ≤ length batch =
      omega (arith, within, length-map batch (λ (row : LineOrder). row.shipmode)) in
      let at : length earlier + place + 1 ≡ length (all_rows (take before batches)) + (place + 1) =
      omega (arith, many) in
      let number : 0 + before + 1 ≡ before + 1 = omega arith in
      ap (place_after 0 batches) at
      ∙ place_at 0 batches before (place + 1) batch here (omega arith) bound
      ∙ ap (λ (n : ℕ). InStoredBatch n (place + 1)) number

  -- one of them is the text that means all ship modes
  pub refused_reserved : (gathered : Gathered) (place : ℕ) → IsGathered batches before gathered
      → reserved_place own ≡ Some place
      → migration_refusal First batches ≡ Some (ReservedMember (InStoredBatch (before + 1) (place + 1)))
  refused_reserved gathered place is at =
      let all : reserved_place (modes_in (all_rows batches)) ≡ Some (length earlier + place) =
      ap reserved_place whole
      ∙ position_append (bytes_eq (codes "ALL")) earlier (own ++ others)
      ∙ ap (λ (o : Option ℕ). or_later o (later_by (length earlier) (reserved_place (own ++ others)))) is.free
      ∙ ap (later_by (length earlier)) (position_append (bytes_eq (codes "ALL")) own others
      ∙ ap (λ (o : Option ℕ). or_later o (later_by (length own) (reserved_place others))) at) in
      let within : place < length own = (position-Some (bytes_eq (codes "ALL")) own place [] at).0 in
      ap (λ (o : Option ℕ). cause_at batches o (crowded_place [] (modes_in (all_rows batches)))) all
      ∙ ap (λ (p : MemberPlace). Some (ReservedMember p)) (place_of place within)

  -- none is
  module _ (gathered next : Gathered) (is : IsGathered batches before gathered) (free : reserved_place own ≡ None) where
    still_free : reserved_place (modes_before batches (before + 1)) ≡ None
    still_free =
        ap reserved_place more
        ∙ position_append (bytes_eq (codes "ALL")) earlier own
        ∙ ap (λ (o : Option ℕ). or_later o (later_by (length earlier) (reserved_place own))) is.free
        ∙ ap (later_by (length earlier)) free

    crowded_then : crowded_place [] (modes_before batches (before + 1))
        ≡ or_later (crowded_place [] earlier) (later_by (length earlier) (crowded_place earlier own))
    crowded_then = ap (crowded_place []) more ∙ crowded_append [] earlier own

    -- there are too many already
    pub gathered_still : (at : MemberPlace) → gathered.crowded ≡ Some at → next ≡ gathered
        → IsGathered batches (before + 1) next
    gathered_still at there same = subst (IsGathered batches (before + 1)) (sym same) (record {
      free = still_free;
      crowded = is.crowded
          ∙ ap (option_map (λ place. place_after 0 batches (place + 1))) (first_stays (crowded_place [] earlier)
          (sym is.crowded ∙ there) ∙ sym crowded_then);
      modes = λ none. let both : Some at ≡ None = sym there ∙ none in absurd cc;
    })
      where
        first_stays : (o : Option ℕ) → option_map (λ place. place_after 0 batches (place + 1)) o ≡ Some at
            → o ≡ or_later o (later_by (length earlier) (crowded_place earlier own))
        first_stays None e = absurd cc
        first_stays (Some k) e = refl

    module _ (fine : gathered.crowded ≡ None) where
      not_yet : crowded_place [] earlier ≡ None
      not_yet = by (crowded_place [] earlier) (sym is.crowded ∙ fine)
        where
          by : (o : Option ℕ) → option_map (λ place. place_after 0 batches (place + 1)) o ≡ None → o ≡ None
          by None e = refl
          by (Some k) e = absurd cc

      crowded_now : (o : Option ℕ) → crowded_place earlier own ≡ o
          → crowded_place [] (modes_before batches (before + 1)) ≡ later_by (length earlier) o
      crowded_now o there =
          crowded_then
          ∙ ap (λ (first : Option ℕ). or_later first (later_by (length earlier) (crowded_place earlier own))) not_yet
          ∙ ap (later_by (length earlier)) there

      -- there are not too many with them
      pub gathered_more : modes_cause InBatch earlier own ≡ None → next.crowded ≡ None
          → next.modes ≡ firsts (earlier ++ own) → IsGathered batches (before + 1) next
      gathered_more no_cause none are = record {
        free = still_free;
        crowded = none
            ∙ sym (ap (option_map (λ place. place_after 0 batches (place + 1)))
            (crowded_now None (no_place (crowded_place earlier own) (sym (by_crowded None) ∙ no_cause))));
        modes = λ e. are ∙ ap firsts (sym more);
      }
        where
          by_crowded : (o : Option ℕ) → modes_cause InBatch earlier own
              ≡ first_cause (option_map (λ place. TooManyMembers (InBatch (place + 1))) (crowded_place earlier own)
              ∷ [])
          by_crowded o =
              ap (λ (r : Option ℕ). first_cause (option_map (λ place. ReservedMember (InBatch (place + 1))) r
              ∷ option_map (λ place. TooManyMembers (InBatch (place + 1))) (crowded_place earlier own) ∷ [])) free

          no_place : (o : Option ℕ)
              → first_cause (option_map (λ place. TooManyMembers (InBatch (place + 1))) o ∷ []) ≡ None → o ≡ None
          no_place None e = refl
          no_place (Some k) e = absurd cc

      -- there are
      pub gathered_crowded : (row : ℕ) → modes_cause InBatch earlier own ≡ Some (TooManyMembers (InBatch row))
          → next.crowded ≡ Some (InStoredBatch (before + 1) row) → IsGathered batches (before + 1) next
      gathered_crowded row cause at =
          let found = place_found (crowded_place earlier own) refl (sym by_crowded ∙ cause) in
          let within = crowded_within earlier own found.0 found.1 in record {
            free = still_free;
            crowded = at
                ∙ ap (λ (r : ℕ). Some (InStoredBatch (before + 1) r)) found.2
                ∙ ap (λ (p : MemberPlace). Some p) (sym (place_of found.0 within))
                ∙ sym (ap (option_map (λ place. place_after 0 batches (place + 1)))
                (crowded_now (Some found.0) found.1));
            modes = λ none. let both : Some (InStoredBatch (before + 1) row) ≡ None = sym at ∙ none in absurd cc;
          }
        where
          by_crowded : modes_cause InBatch earlier own
              ≡ first_cause (option_map (λ place. TooManyMembers (InBatch (place + 1))) (crowded_place earlier own)
              ∷ [])
          by_crowded =
              ap (λ (r : Option ℕ). first_cause (option_map (λ place. ReservedMember (InBatch (place + 1))) r
              ∷ option_map (λ place. TooManyMembers (InBatch (place + 1))) (crowded_place earlier own) ∷ [])) free

          same_row : (a b : ℕ) → Some (TooManyMembers (InBatch a)) ≡ Some (TooManyMembers (InBatch b)) → b ≡ a
          same_row a b e = cc

          place_found : (o : Option ℕ) → crowded_place earlier own ≡ o
              → first_cause (option_map (λ place. TooManyMembers (InBatch (place + 1))) o ∷ [])
              ≡ Some (TooManyMembers (InBatch row))
              → (place : ℕ) × (crowded_place earlier own ≡ Some place) × (row ≡ place + 1)
          place_found None there e = absurd cc
          place_found (Some k) there e = (k, there, same_row (k + 1) row e)

-- all of them
module _ (batches : List (List LineOrder)) (gathered : Gathered)
    (is : IsGathered batches (length batches) gathered) where
  all_of : modes_before batches (length batches) ≡ modes_in (all_rows batches)
  all_of = ap (λ (l : List (List LineOrder)). modes_in (all_rows l)) (take_all (length batches) batches (omega arith))

  by_crowded : migration_refusal First batches
      ≡ cause_at batches None (crowded_place [] (modes_before batches (length batches)))
  by_crowded =
      ap (λ (l : List (List ℕ)). modes_cause (place_after 0 batches) [] l) (sym all_of)
      ∙ ap (λ (o : Option ℕ). cause_at batches o (crowded_place [] (modes_before batches (length batches)))) is.free

  by_place : (o : Option ℕ) → cause_at batches None o
      ≡ option_map (λ (p : MemberPlace). TooManyMembers p) (option_map (λ place. place_after 0 batches (place + 1)) o)
  by_place None = refl
  by_place (Some k) = refl

  refusal_is : migration_refusal First batches ≡ option_map (λ (p : MemberPlace). TooManyMembers p) gathered.crowded
  refusal_is = by_crowded ∙ by_place (crowded_place [] (modes_before batches (length batches)))
      ∙ ap (option_map (λ (p : MemberPlace). TooManyMembers p)) (sym is.crowded)

  pub all_refused : (place : MemberPlace) → gathered.crowded ≡ Some place
      → migration_refusal First batches ≡ Some (TooManyMembers place)
  all_refused place at = refusal_is ∙ ap (option_map (λ (p : MemberPlace). TooManyMembers p)) at

  pub all_gathered : gathered.crowded ≡ None → (migration_refusal First batches ≡ None)
      × (gathered.modes ≡ firsts (modes_in (all_rows batches)))
  all_gathered none = (
    refusal_is ∙ ap (option_map (λ (p : MemberPlace). TooManyMembers p)) none,
    is.modes none ∙ ap firsts all_of,
  )

-- none of no batch
pub gathered_none : (batches : List (List LineOrder)) (gathered : Gathered) → gathered.crowded ≡ None
    → gathered.modes ≡ [] → IsGathered batches 0 gathered
gathered_none batches gathered none are = record {
  free = refl;
  crowded = none;
  modes = λ e. are;
}

-- ---- what a call found

found_at : (o : Option ℕ) (row : ℕ) → Some row ≡ row_number_at o → (place : ℕ) × (o ≡ Some place) × (row ≡ place + 1)
found_at None row e = absurd cc
found_at (Some k) row e = (k, refl, some_one row (k + 1) e)

pub found_none : (o : Option ℕ) → None ≡ row_number_at o → o ≡ None
found_none None e = refl
found_none (Some k) e = absurd cc

pub some_there : (o : Option MemberPlace) → is_some o ≡ true → (at : MemberPlace) × (o ≡ Some at)
some_there None e = absurd cc
some_there (Some at) e = (at, refl)

pub none_there : (o : Option MemberPlace) → is_some o ≡ false → o ≡ None
none_there None e = refl
none_there (Some at) e = absurd cc

-- the text that means all ship modes, in a row
pub refused_row : (batches : List (List LineOrder)) (before : ℕ) (batch : List LineOrder)
    → slice_get batches before ≡ Some batch → (gathered : Gathered) → IsGathered batches before gathered
    → (number row : ℕ) → number ≡ before + 1 → Some row ≡ row_number_at (reserved_place (modes_in batch))
    → migration_refusal First batches ≡ Some (ReservedMember (InStoredBatch number row))
refused_row batches before batch here gathered is number row same e =
    let found = found_at (reserved_place (modes_in batch)) row e in
    refused_reserved batches before batch here gathered found.0 is found.1
    ∙ ap (λ (n : ℕ). Some (ReservedMember (InStoredBatch n (found.0 + 1)))) (sym same)
    ∙ ap (λ (n : ℕ). Some (ReservedMember (InStoredBatch number n))) (sym found.2)

-- a row with which there are too many is the cause
pub crowding : (cause : Option Fault) (fault : Fault) (at : MemberPlace) (row : ℕ) → fault ≡ TooManyMembers at
    → at ≡ InBatch row → (fault ≡ Memory) ⊎ (cause ≡ Some fault) → cause ≡ Some (TooManyMembers (InBatch row))
crowding cause fault at row is placed (inl memory) = let both : TooManyMembers at ≡ Memory = sym is ∙ memory in
    absurd cc
crowding cause fault at row is placed (inr refused) =
    refused ∙ ap (λ (f : Fault). Some f) is ∙ ap (λ (p : MemberPlace). Some (TooManyMembers p)) placed
