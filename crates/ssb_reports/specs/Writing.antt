-- What a writer got of some bytes that were to be written.
use Rattle.std.specs.Prelude.{◌≡◌, ℕ, List, ◌++◌, Option, Result, Ok, Err}
use Rattle.std.specs.Io.KnownBytes.{Appends}
use Rattle.cube_model.specs.declared.fault.Fault.{Fault}
use Rattle.cube_model.specs.declared.fault.Fault.TheVariants.{Output}

-- known bytes grew by a beginning of some bytes
pub record AppendsBeginning (old new : Option (List ℕ)) (bytes : List ℕ) : Type 0 where
  pub written : List ℕ
  pub left : List ℕ
  pub whole : bytes ≡ written ++ left
  pub appended : Appends old new written

-- all of the bytes were written, or the writer failed after a beginning of them
abbrev pub Writes : Option (List ℕ) → Option (List ℕ) → Result Unit Fault → List ℕ → Type 0
Writes old new (Ok done) bytes = Appends old new bytes
Writes old new (Err fault) bytes = (fault ≡ Output) × AppendsBeginning old new bytes
