-- The causes for which something is refused. Our own.
use Rattle.std.specs.Prelude.{◌≡◌, ◌⊎◌, Bool, Option, Some, None, List, [], ◌∷◌, cond}
use Rattle.cube_model.specs.declared.fault.Fault.{Fault}
use Rattle.cube_model.specs.declared.fault.Fault.TheVariants.{BadLayout, Memory}

-- the first cause that there is
abbrev pub first_cause : List (Option Fault) → Option Fault
first_cause [] = None
first_cause (None ∷ causes) = first_cause causes
first_cause (Some cause ∷ causes) = Some cause

-- a cause where a test holds
abbrev pub cause_if : Bool → Fault → Option Fault
cause_if test cause = cond test (Some cause) None

-- with which faults the decoding of stored bytes is refused
abbrev pub EndsDecoding : Fault → Type 0
EndsDecoding fault = (fault ≡ Memory) ⊎ (fault ≡ BadLayout)
