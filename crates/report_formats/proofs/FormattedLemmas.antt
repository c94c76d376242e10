-- Reports of arranged lines.
use Rattle.std.proofs.Common.{◌≡◌, ℕ, List, Option, Result, Ok, Err, inl, inr}
use Rattle.std.proofs.KnownBytes.{Keeps-refl}
use Rattle.cube_model.specs.declared.fault.Fault.{Fault}
use Rattle.cube_model.specs.declared.fault.Fault.TheVariants.{Memory}
use Rattle.ssb_reports.specs.Writing.{Writes}
use Rattle.report_formats.specs.Arranged.{WritesOrLacksMemory}

-- memory lacked before anything was written
pub lacks : (known : Option (List ℕ)) (fault : Fault) (result : Result Unit Fault) (bytes : List ℕ)
    → (other : Fault) × (result ≡ Err other) × (other ≡ fault)
    → fault ≡ Memory → WritesOrLacksMemory known known result bytes
lacks known fault result bytes stop memory = rw (stop.1, stop.2) (inr (memory, Keeps-refl known))

pub written : (old new : Option (List ℕ)) (result : Result Unit Fault) (bytes : List ℕ) → Writes old new result bytes
    → WritesOrLacksMemory old new result bytes
written old new (Ok done) bytes writes = writes
written old new (Err fault) bytes writes = inl writes
