-- The first cause to refuse a batch, in the order in which it is looked for.
use Rattle.std.proofs.Common.{◌≡◌, ℕ, ◌+◌, Option, Some, None, List, [], ◌∷◌, ◌++◌, length, nat_le, nat_lt}
use Rattle.std.proofs.Common.{refl, sym, ◌∙◌, ap, Result, Ok, Err, OnOk}
use Rattle.std.specs.Result.{result_err}
use Rattle.cube_model.specs.declared.fault.Fault.{Fault}
use Rattle.cube_model.specs.declared.fault.Fault.TheVariants.{Repeated, Gap, TooManyBatches, TooManyRows}
use Rattle.cube_model.specs.declared.fault.MemberPlace.TheVariants.{InBatch}
use Rattle.cube_model.specs.declared.rows.DimRows.{DimRows}
use Rattle.cube_model.specs.declared.rows.LineOrder.{LineOrder}
use Rattle.cube_model.specs.Admission.{all_rows, early_refusal, long_text, moded_refusal, refusal, sums_cause}
use Rattle.cube_model.specs.Admission.{unknown_axis, unknown_key}
use Rattle.cube_model.specs.Causes.{cause_if, first_cause}
use Rattle.cube_model.specs.Limits.{most_batch_rows, most_batches}
use Rattle.cube_model.specs.ShipModes.{modes_cause, modes_in}
use Rattle.batch_admission.specs.Accepted.{Accepted, Admits, HasAccepted}
use Rattle.batch_admission.specs.Found.{Found, found_in}
use Rattle.cube_model.specs.declared.totals.Totals.{Totals}
use Rattle.batch_admission.proofs.CallerLemmas.{long_before}
use Rattle.ssb_eval.specs.ShipModes.{HasMet, HasMetRows, Met, early_cause}
use Rattle.ssb_eval.proofs.Modes.{HasMet-next, cause_is}

both : (cause : Option Fault) (causes : List (Option Fault)) → first_cause (cause ∷ causes) ≡ None
    → (cause ≡ None) × (first_cause causes ≡ None)
both None causes e = (refl, e)
both (Some fault) causes e = cc

only : (cause : Option Fault) → first_cause (cause ∷ []) ≡ None → cause ≡ None
only None e = refl
only (Some fault) e = e

neither : (a b : Option Fault) → a ≡ None → b ≡ None → first_cause (a ∷ b ∷ []) ≡ None
neither a b x y = rw (x, y) refl

-- ---- an early cause

unknown_before : (dimensions : DimRows) (number : ℕ) (earlier rows : List LineOrder)
    → unknown_key dimensions number (earlier ++ rows) ≡ None → unknown_key dimensions number earlier ≡ None
unknown_before dimensions number [] rows e = refl
unknown_before dimensions number (row ∷ earlier) rows e =
    let parts = both (unknown_axis dimensions number row) (unknown_key dimensions (number + 1) (earlier ++ rows) ∷ [])
    e in
    neither (unknown_axis dimensions number row) (unknown_key dimensions (number + 1) earlier) parts.0
    (unknown_before dimensions (number + 1) earlier rows (only _ parts.1))

-- one that is not found in some rows is not found in the first of them
pub early-before : (dimensions : DimRows) (totals : Totals) (earlier rows : List LineOrder) (found more : Found)
    → found ≡ found_in dimensions totals earlier → more ≡ found_in dimensions totals (earlier ++ rows)
    → early_cause more ≡ None → early_cause found ≡ None
early-before dimensions totals earlier rows found more was is none =
    let parts = both (long_text 1 (earlier ++ rows)) (unknown_key dimensions 1 (earlier ++ rows) ∷ [])
    (ap early_cause (sym is) ∙ none) in
    ap early_cause was
    ∙ neither (long_text 1 earlier) (unknown_key dimensions 1 earlier) (long_before 1 earlier rows parts.0)
    (unknown_before dimensions 1 earlier rows (only _ parts.1))

-- ---- a batch that is not refused

-- no ship mode is refused
passed_by : (early modes sums : Option Fault) → modes ≡ None
    → first_cause (early ∷ sums ∷ []) ≡ first_cause (early ∷ modes ∷ sums ∷ [])
passed_by early modes sums none =
    without early sums ∙ ap (λ m. first_cause (early ∷ m ∷ sums ∷ [])) (sym none)
  where
    without : (early sums : Option Fault) → first_cause (early ∷ sums ∷ []) ≡ first_cause (early ∷ None ∷ sums ∷ [])
    without None sums = refl
    without (Some fault) sums = refl

module _ (dimensions : DimRows) (batches : List (List LineOrder)) (number : ℕ) (rows : List LineOrder)
    (passed : moded_refusal dimensions batches number rows ≡ None) where
  modes_pass : modes_cause InBatch (modes_in (all_rows batches)) (modes_in rows) ≡ None
  modes_pass = (both _ _ (both (early_refusal dimensions batches number rows) _ passed).1).0

  -- it is not refused for anything else
  pub plain : refusal dimensions batches number rows ≡ None
  plain = passed_by (early_refusal dimensions batches number rows) _ (sums_cause (all_rows batches ++ rows)) modes_pass
      ∙ passed

  -- and the next one begins
  pub modes_next : (found : Found) (totals : Totals) (met : Met) → found ≡ found_in dimensions totals rows
      → HasMetRows found met (all_rows batches) rows → HasMet met (modes_in (all_rows (batches ++ rows ∷ []))) []
  modes_next found totals met is has =
      let early = (both (early_refusal dimensions batches number rows) _ passed).0 in
      let met_rows = has (ap early_cause is ∙ late early) in
      HasMet-next met batches rows met_rows
      (cause_is met (modes_in (all_rows batches)) (modes_in rows) met_rows ∙ modes_pass)
    where
      late : early_refusal dimensions batches number rows ≡ None
          → first_cause (long_text 1 rows ∷ unknown_key dimensions 1 rows ∷ []) ≡ None
      late e =
          let keys = unknown_key dimensions 1 rows ∷ [] in
          let texts = long_text 1 rows ∷ keys in
          let sizes = cause_if (nat_lt most_batch_rows (length rows)) TooManyRows ∷ texts in
          let counts = cause_if (nat_le most_batches (length batches)) TooManyBatches ∷ sizes in
          let gaps = cause_if (nat_lt (length batches + 1) number) Gap ∷ counts in
          let repeated = both (cause_if (nat_le number (length batches)) Repeated) gaps e in
          let gap = both (cause_if (nat_lt (length batches + 1) number) Gap) counts repeated.1 in
          let many = both (cause_if (nat_le most_batches (length batches)) TooManyBatches) sizes gap.1 in
          (both (cause_if (nat_lt most_batch_rows (length rows)) TooManyRows) texts many.1).1

-- a batch that was taken in is among those that were accepted
pub accepted_by : (old new : Accepted) (number : ℕ) (found : Found) (result : Result Unit Fault)
    → ((dimensions : DimRows) (batches : List (List LineOrder)) (rows : List LineOrder) → HasAccepted old batches
    → found ≡ found_in dimensions old.totals rows
    → Admits dimensions old new number rows (result_err result) batches)
    → OnOk result ((dimensions : DimRows) (batches : List (List LineOrder)) (rows : List LineOrder)
    → HasAccepted old batches → found ≡ found_in dimensions old.totals rows → HasAccepted new (batches ++ rows ∷ []))
accepted_by old new number found (Ok done) admits =
    λ dimensions batches rows has is. (admits dimensions batches rows has is).taken
accepted_by old new number found (Err fault) admits = tt
