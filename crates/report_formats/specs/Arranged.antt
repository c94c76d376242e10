-- What a writer got of a report whose lines are arranged in memory. Our own.
use Rattle.std.specs.Prelude.{◌≡◌, ◌⊎◌, ℕ, List, Option, Result, Ok, Err}
use Rattle.std.specs.Io.KnownBytes.{Appends, Keeps}
use Rattle.cube_model.specs.declared.fault.Fault.{Fault}
use Rattle.cube_model.specs.declared.fault.Fault.TheVariants.{Memory, Output}
use Rattle.ssb_reports.specs.Writing.{AppendsBeginning}

-- all of some bytes were written, or the writer failed after a beginning of them, or nothing was written when out of
-- memory
abbrev pub WritesOrLacksMemory : Option (List ℕ) → Option (List ℕ) → Result Unit Fault → List ℕ → Type 0
WritesOrLacksMemory old new (Ok done) bytes = Appends old new bytes
WritesOrLacksMemory old new (Err fault) bytes =
    ((fault ≡ Output) × AppendsBeginning old new bytes) ⊎ ((fault ≡ Memory) × Keeps old new)
