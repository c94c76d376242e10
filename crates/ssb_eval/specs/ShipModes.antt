-- What is kept of ship modes while batches are looked at. Our own.
use Rattle.std.specs.Prelude.{◌≡◌, ℕ, ◌≤◌, Option, None, List, [], ◌∷◌, ◌++◌, length}
use Rattle.std.specs.Option.{option_map}
use Rattle.batch_admission.specs.Found.{Found}
use Rattle.batch_admission.specs.ShipModes.{row_number_at}
use Rattle.cube_model.specs.declared.fault.Fault.{Fault}
use Rattle.cube_model.specs.declared.fault.Fault.TheVariants.{ReservedMember, TooManyMembers}
use Rattle.cube_model.specs.declared.fault.MemberPlace.TheVariants.{InBatch}
use Rattle.cube_model.specs.declared.rows.LineOrder.{LineOrder}
use Rattle.cube_model.specs.Causes.{first_cause}
use Rattle.cube_model.specs.Limits.{most_members}
use Rattle.cube_model.specs.ShipModes.{crowded_place, modes_in, reserved_place}
use Rattle.dictionary.specs.Dictionary.{Texts, firsts}

-- the ship modes that were met, and of the batch under way the first row with the reserved one and the first row with
-- which they are too many. Rows count from 1
pub record Met : Type 0 where
  pub known : Texts
  pub reserved : Option ℕ
  pub crowded : Option ℕ

-- ship modes of a batch under way were looked at after those of the batches before it
pub record HasMet (met : Met) (earlier modes : List (List ℕ)) : Type 0 where
  pub limit : met.known.limit ≡ most_members
  pub few : length met.known.texts ≤ most_members
  pub known : met.crowded ≡ None → met.known.texts ≡ firsts (earlier ++ modes)
  pub reserved : met.reserved ≡ row_number_at (reserved_place modes)
  pub crowded : met.crowded ≡ row_number_at (crowded_place earlier modes)

-- the first cause to refuse the batch under way for its ship modes
abbrev pub cause_met : Met → Option Fault
cause_met met = first_cause (
    option_map (λ row. ReservedMember (InBatch row)) met.reserved
    ∷ option_map (λ row. TooManyMembers (InBatch row)) met.crowded ∷ [])

-- the first cause that was found in the rows of a batch, their sums apart
abbrev pub early_cause : Found → Option Fault
early_cause found = first_cause (found.long_text ∷ found.unknown_key ∷ [])

-- the ship modes of rows were looked at after those of the rows before them, unless an earlier cause was found
abbrev pub HasMetRows : Found → Met → List LineOrder → List LineOrder → Type 0
HasMetRows found met before rows = early_cause found ≡ None → HasMet met (modes_in before) (modes_in rows)
