-- What a read of a part of a text gives. Our own.
use Rattle.std.specs.Prelude.{◌≡◌, ◌⊎◌, ℕ, List, Option, length, take, drop, IsSomeAnd}
use Rattle.cube_model.specs.declared.fault.Fault.{Fault}
use Rattle.cube_model.specs.declared.fault.Fault.TheVariants.{Device, Failed}

-- the bytes are those of the text from a place on
abbrev pub Gives : Option (List ℕ) → ℕ → List ℕ → Type 0
Gives text at part = IsSomeAnd text (λ bytes. part ≡ take (length part) (drop at bytes))

-- a refusal of a read: what the texts are stored on failed, in this call or before
abbrev pub IsReadFault : Fault → Type 0
IsReadFault fault = (fault ≡ Device) ⊎ (fault ≡ Failed)
