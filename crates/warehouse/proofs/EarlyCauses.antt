-- The first cause to refuse a batch, its ship modes and its sums apart, in the order in which it is looked for.
use Rattle.std.proofs.Common.{◌≡◌, ℕ, ◌+◌, ◌<◌, ◌≤◌, true, false, Option, Some, None, List, [], ◌∷◌, length, nat_le}
use Rattle.std.proofs.Common.{nat_lt}
use Rattle.std.proofs.Common.{refl, ◌∙◌, ap, arith}
use Rattle.std.proofs.lemmas.Bool.Decides.{nat_tests}
use Rattle.cube_model.specs.declared.fault.Fault.{Fault}
use Rattle.cube_model.specs.declared.fault.Fault.TheVariants.{Repeated, Gap, TooManyBatches, TooManyRows}
use Rattle.cube_model.specs.declared.rows.DimRows.{DimRows}
use Rattle.cube_model.specs.declared.rows.LineOrder.{LineOrder}
use Rattle.cube_model.specs.Admission.{early_refusal, long_text, unknown_key}
use Rattle.cube_model.specs.Causes.{cause_if, first_cause}
use Rattle.cube_model.specs.Limits.{most_batch_rows, most_batches}
use Rattle.batch_admission.specs.Accepted.{number_cause}

in_groups : (a b c d e f : Option Fault)
    → first_cause (first_cause (a ∷ b ∷ c ∷ []) ∷ d ∷ first_cause (e ∷ f ∷ []) ∷ [])
    ≡ first_cause (a ∷ b ∷ c ∷ d ∷ e ∷ f ∷ [])
in_groups (Some a) b c d e f = refl
in_groups None (Some b) c d e f = refl
in_groups None None (Some c) d e f = refl
in_groups None None None (Some d) e f = refl
in_groups None None None None (Some e) f = refl
in_groups None None None None None (Some f) = refl
in_groups None None None None None None = refl

alone : (cause : Option Fault) → cause ≡ first_cause (None ∷ None ∷ cause ∷ [])
alone None = refl
alone (Some cause) = refl

module _ (dimensions : DimRows) (batches : List (List LineOrder)) (count number : ℕ) (rows : List LineOrder)
    (is : count ≡ length batches) where
  abbrev found_cause : Option Fault
  found_cause = first_cause (long_text 1 rows ∷ unknown_key dimensions 1 rows ∷ [])

  in_parts : first_cause (number_cause count number ∷ cause_if (nat_lt most_batch_rows (length rows)) TooManyRows
      ∷ found_cause ∷ []) ≡ early_refusal dimensions batches number rows
  in_parts =
      in_groups (cause_if (nat_le number count) Repeated) (cause_if (nat_lt (count + 1) number) Gap)
      (cause_if (nat_le most_batches count) TooManyBatches)
      (cause_if (nat_lt most_batch_rows (length rows)) TooManyRows) (long_text 1 rows) (unknown_key dimensions 1 rows)
      ∙ ap (λ (n : ℕ). first_cause
      (cause_if (nat_le number n) Repeated ∷ cause_if (nat_lt (n + 1) number) Gap
      ∷ cause_if (nat_le most_batches n) TooManyBatches ∷ cause_if (nat_lt most_batch_rows (length rows)) TooManyRows
      ∷ long_text 1 rows ∷ unknown_key dimensions 1 rows ∷ [])) is

  -- a number that is refused
  pub early_numbered : (fault : Fault) → Some fault ≡ number_cause count number
      → Some fault ≡ early_refusal dimensions batches number rows
  early_numbered fault refused =
      ap (λ first. first_cause (first ∷ cause_if (nat_lt most_batch_rows (length rows)) TooManyRows ∷ found_cause ∷ []))
      refused ∙ in_parts

  -- too many rows
  pub early_long : None ≡ number_cause count number → most_batch_rows < length rows
      → Some TooManyRows ≡ early_refusal dimensions batches number rows
  early_long next long =
      let test : true ≡ nat_lt most_batch_rows (length rows) = grind (arith, nat_tests) in
      ap (λ first. first_cause (first ∷ Some TooManyRows ∷ found_cause ∷ [])) next
      ∙ ap (λ test. first_cause (number_cause count number ∷ cause_if test TooManyRows ∷ found_cause ∷ [])) test
      ∙ in_parts

  -- what was found decides the rest
  pub early_found : None ≡ number_cause count number → length rows ≤ most_batch_rows
      → first_cause (long_text 1 rows ∷ unknown_key dimensions 1 rows ∷ [])
      ≡ early_refusal dimensions batches number rows
  early_found next few =
      let test : false ≡ nat_lt most_batch_rows (length rows) = grind (arith, nat_tests) in
      alone found_cause
      ∙ ap (λ first. first_cause (first ∷ None ∷ found_cause ∷ [])) next
      ∙ ap (λ test. first_cause (number_cause count number ∷ cause_if test TooManyRows ∷ found_cause ∷ [])) test
      ∙ in_parts
