-- Ship modes for which an evaluation refuses no batch.
use Rattle.std.proofs.Common.{◌≡◌, ◌≤◌, ◌+◌, ◌∙◌, sym, ap, refl, subst, arith, ℕ, Bool, true, false, ◌||◌}
use Rattle.std.proofs.Common.{List, [], ◌∷◌, ◌++◌, length, Option, None}
use Rattle.std.specs.Prelude.{codes}
use Rattle.std.specs.List.{list_any}
use Rattle.std.specs.Option.{option_map}
use Rattle.std.specs.Str.{bytes_eq}
use Rattle.std.proofs.lemmas.Grind.{flat_map-append}
use Rattle.std.proofs.lemmas.List.{map-append}
use Rattle.std.proofs.lemmas.List.Folds.{list_any-append}
use Rattle.cube_model.specs.declared.fault.Fault.{Fault}
use Rattle.cube_model.specs.declared.fault.Fault.TheVariants.{ReservedMember, TooManyMembers}
use Rattle.cube_model.specs.declared.fault.MemberPlace.{MemberPlace}
use Rattle.cube_model.specs.declared.fault.MemberPlace.TheVariants.{InBatch}
use Rattle.cube_model.specs.declared.rows.DimRows.{DimRows}
use Rattle.cube_model.specs.declared.rows.LineOrder.{LineOrder}
use Rattle.cube_model.specs.Admission.{all_rows, early_refusal, moded_refusal, refusal, sums_cause}
use Rattle.cube_model.specs.Causes.{first_cause}
use Rattle.cube_model.specs.Limits.{most_members}
use Rattle.cube_model.specs.ShipModes.{crowded_place, modes_cause, modes_in, reserved_place}
use Rattle.cube_model.specs.Validity.{members_of}
use Rattle.dictionary.proofs.CallerLemmas.{absent, list_any-firsts}
use Rattle.dimensions.proofs.MemberLaws.{length-members}
use Rattle.warehouse_root.specs.declared.layout.Layout.{Layout}
use Rattle.warehouse_root.specs.declared.layout.Layout.TheVariants.{First, Second}
use Rattle.warehouse_root.specs.Modes.{AreModes, kept_modes}
use Rattle.warehouse_objects.specs.Migration.{migration_refusal, place_after}
use Rattle.warehouse_objects.proofs.Batches.{both, only}
use Rattle.warehouse_objects.proofs.KeptModes.{crowded_none, never_crowded, somewhere, unmapped}

-- texts that can be the ship modes of one warehouse of the second layout
pub record AreFit (modes : List (List ℕ)) : Type 0 where
  pub few : length (members_of modes) ≤ most_members
  pub free : list_any (bytes_eq (codes "ALL")) modes ≡ false

fit_first : (batches : List (List LineOrder)) → migration_refusal First batches ≡ None
    → AreFit (modes_in (all_rows batches))
fit_first batches passed =
    let modes : List (List ℕ) = modes_in (all_rows batches) in
    let at : ℕ → MemberPlace = place_after 0 batches in
    let reserved = both (option_map (λ k. ReservedMember (at (k + 1))) (reserved_place modes)) _ passed in
    let crowded = only (option_map (λ k. TooManyMembers (at (k + 1))) (crowded_place [] modes)) reserved.1 in
    record {
      few = never_crowded [] modes (omega arith)
          (unmapped (λ k. TooManyMembers (at (k + 1))) (crowded_place [] modes) crowded);
      free = absent modes (codes "ALL") (unmapped (λ k. ReservedMember (at (k + 1))) (reserved_place modes) reserved.0);
    }

fit_second : (batches : List (List LineOrder)) → AreModes (kept_modes Second (all_rows batches))
    → AreFit (modes_in (all_rows batches))
fit_second batches are = record {
  few = omega (arith, length-members (modes_in (all_rows batches)), are.proper.most);
  free = sym (list_any-firsts (codes "ALL") (modes_in (all_rows batches))) ∙ are.free;
}

-- those of a warehouse that has the second layout, or may move to it
pub fit_in : (layout : Layout) (batches : List (List LineOrder)) → migration_refusal layout batches ≡ None
    → AreModes (kept_modes layout (all_rows batches)) → AreFit (modes_in (all_rows batches))
fit_in First batches passed are = fit_first batches passed
fit_in Second batches passed are = fit_second batches are

-- some of them give no cause to refuse them after others
fit_part : (before modes rest : List (List ℕ)) → AreFit (before ++ (modes ++ rest))
    → modes_cause InBatch before modes ≡ None
fit_part before modes rest fit =
    let parts : (list_any (bytes_eq (codes "ALL")) before || (list_any (bytes_eq (codes "ALL")) modes
    || list_any (bytes_eq (codes "ALL")) rest)) ≡ false =
    ap (λ (b : Bool). list_any (bytes_eq (codes "ALL")) before || b)
    (sym (list_any-append (bytes_eq (codes "ALL")) modes rest))
    ∙ sym (list_any-append (bytes_eq (codes "ALL")) before (modes ++ rest)) ∙ fit.free in
    ap (λ (o : Option ℕ). first_cause (option_map (λ p. ReservedMember (InBatch (p + 1))) o
    ∷ option_map (λ p. TooManyMembers (InBatch (p + 1))) (crowded_place before modes) ∷ []))
    (somewhere (bytes_eq (codes "ALL")) modes
    (middle (list_any (bytes_eq (codes "ALL")) before) (list_any (bytes_eq (codes "ALL")) modes) _ parts))
    ∙ ap (λ (o : Option ℕ). first_cause (option_map (λ p. TooManyMembers (InBatch (p + 1))) o ∷ []))
    (crowded_none before modes rest fit.few)
  where
    middle : (a b c : Bool) → (a || (b || c)) ≡ false → b ≡ false
    middle true b c e = absurd (cc e)
    middle false true c e = absurd (cc e)
    middle false false c e = refl

none_of_three : (a b c : Option Fault) → a ≡ None → b ≡ None → c ≡ None → first_cause (a ∷ b ∷ c ∷ []) ≡ None
none_of_three a b c x y z = rw (x, y, z) refl

-- a batch of them that may follow those before it may do so by its ship modes too
pub moded_of : (dimensions : DimRows) (batches : List (List LineOrder)) (rows : List LineOrder)
    (others : List (List LineOrder)) (number : ℕ) → AreFit (modes_in (all_rows (batches ++ rows ∷ others)))
    → refusal dimensions batches number rows ≡ None → moded_refusal dimensions batches number rows ≡ None
moded_of dimensions batches rows others number fit passed =
    let early = both (early_refusal dimensions batches number rows) _ passed in
    let parts : modes_in (all_rows (batches ++ rows ∷ others))
    ≡ modes_in (all_rows batches) ++ (modes_in rows ++ modes_in (all_rows others)) =
    ap modes_in (flat_map-append (λ (b : List LineOrder). b) batches (rows ∷ others))
    ∙ map-append (λ (row : LineOrder). row.shipmode) (all_rows batches) (rows ++ all_rows others)
    ∙ ap (λ l. modes_in (all_rows batches) ++ l)
    (map-append (λ (row : LineOrder). row.shipmode) rows (all_rows others)) in
    none_of_three (early_refusal dimensions batches number rows)
    (modes_cause InBatch (modes_in (all_rows batches)) (modes_in rows)) (sums_cause (all_rows batches ++ rows)) early.0
    (fit_part (modes_in (all_rows batches)) (modes_in rows) (modes_in (all_rows others)) (subst AreFit parts fit))
    (only (sums_cause (all_rows batches ++ rows)) early.1)
