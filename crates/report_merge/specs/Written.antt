-- What a writer got of a partial report. Our own.
use Rattle.std.specs.Prelude.{◌≡◌, ◌⊎◌, ℕ, List, Option, Result, Ok, Err}
use Rattle.std.specs.Io.KnownBytes.{Appends, Keeps}
use Rattle.cube_model.specs.declared.fault.Fault.{Fault}
use Rattle.cube_model.specs.declared.fault.Fault.TheVariants.{Output}
use Rattle.ssb_reports.specs.Writing.{AppendsBeginning}
use Rattle.report_merge.specs.Ranges.{IsRangeOrMemory}

-- All of some bytes were written, or the writer failed after a beginning of them. Or nothing was written: a number
-- passes 64 bits, or memory was refused
abbrev pub WritesOrKeeps : Option (List ℕ) → Option (List ℕ) → Result Unit Fault → List ℕ → Type 0
WritesOrKeeps old new (Ok done) bytes = Appends old new bytes
WritesOrKeeps old new (Err fault) bytes = ((fault ≡ Output) × AppendsBeginning old new bytes)
    ⊎ (IsRangeOrMemory fault × Keeps old new)
