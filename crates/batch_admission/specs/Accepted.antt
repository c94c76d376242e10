-- What the check of a batch keeps of the batches before it. Our own.
use Rattle.std.specs.Prelude.{◌≡◌, ℕ, ◌+◌, ◌≤◌, None, nat_le, nat_lt, List, [], ◌∷◌, ◌++◌, length, Option, MatchOption}
use Rattle.cube_model.specs.declared.fault.Fault.{Fault}
use Rattle.cube_model.specs.declared.fault.Fault.TheVariants.{Repeated, Gap, TooManyBatches}
use Rattle.cube_model.specs.declared.rows.DimRows.{DimRows}
use Rattle.cube_model.specs.declared.rows.LineOrder.{LineOrder}
use Rattle.cube_model.specs.Admission.{all_rows, long_text, refusal}
use Rattle.cube_model.specs.Causes.{first_cause, cause_if}
use Rattle.cube_model.specs.Limits.{most_batch_rows, most_batches}
use Rattle.cube_model.specs.declared.totals.Totals.{Totals}
use Rattle.batch_admission.specs.Totals.{totals_of}

-- the number of accepted batches, and the totals of their rows
pub record Accepted : Type 0 where
  pub count : ℕ
  pub totals : Totals

-- it comes after accepted batches: it has their number, and the totals of their rows
pub record HasAccepted (accepted : Accepted) (batches : List (List LineOrder)) : Type 0 where
  pub count : accepted.count ≡ length batches
  pub totals : accepted.totals ≡ totals_of (all_rows batches)

-- the first cause to refuse a batch by its number alone, after so many batches
abbrev pub number_cause : ℕ → ℕ → Option Fault
number_cause count number = first_cause (
    cause_if (nat_le number count) Repeated
    ∷ cause_if (nat_lt (count + 1) number) Gap
    ∷ cause_if (nat_le most_batches count) TooManyBatches ∷ [])

-- rows can be a batch with a number after so many batches: it is the next one, not past the last, they are not too
-- many, and no text of theirs is too long
pub record CanFollow (count number : ℕ) (rows : List LineOrder) : Type 0 where
  pub next : number ≡ count + 1
  pub last : number ≤ most_batches
  pub few : length rows ≤ most_batch_rows
  pub texts : long_text 1 rows ≡ None

-- a batch was taken in after accepted ones exactly if it is not refused there; the first cause is the answer
pub record Admits (dimensions : DimRows) (old new : Accepted) (number : ℕ) (rows : List LineOrder)
    (answer : Option Fault)
    (batches : List (List LineOrder)) : Type 0 where
  pub cause : answer ≡ refusal dimensions batches number rows
  pub taken : MatchOption answer (HasAccepted new (batches ++ rows ∷ [])) (λ fault. new ≡ old)
