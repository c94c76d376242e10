-- What a job does on a session that has failed before. Our own.
use Rattle.std.specs.Prelude.{◌≡◌, ℕ, true, List, Option, Result, Err}
use Rattle.std.specs.Io.KnownBytes.{Keeps}
use Rattle.sector_device.specs.declared.device.Sectors.{Ghosts}
use Rattle.cube_model.specs.declared.fault.Fault.{Fault}
use Rattle.cube_model.specs.declared.fault.Fault.TheVariants.{Failed}
use Rattle.warehouse.specs.declared.session.Session.{Session}
use Rattle.warehouse.specs.Session.{has_failed}

-- it is refused for that, does nothing and writes nothing
abbrev pub FailsAtOnce : {D A : Type 0} (g : Ghosts D) → Session D g → Session D g → (before after : Option (List ℕ))
    → Result A Fault → Type 0
FailsAtOnce g old new before after result =
    has_failed old ≡ true → (result ≡ Err Failed) × (new ≡ old) × Keeps before after
