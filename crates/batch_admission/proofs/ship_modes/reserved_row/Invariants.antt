use Rattle.std.proofs.Common.{◌≡◌, ◌<◌, ℕ, codes, false, get_or, []}
use Rattle.std.specs.Str.{bytes_eq}
use Rattle.batch_admission.specs.ShipModes.{texts_by}
use Rattle.batch_admission.proofs.ship_modes.reserved_row.Given as goal

abbrev pub invariant-loop-place : goal.invariant-loop-place
invariant-loop-place l = (k : ℕ) → k < l.place
    → bytes_eq (codes "ALL") (get_or (texts_by l.modes.texts l.codes) k []) ≡ false
