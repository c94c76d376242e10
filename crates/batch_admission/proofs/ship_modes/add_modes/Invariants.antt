use Rattle.batch_admission.proofs.ShipModesLemmas.{Adding}
use Rattle.batch_admission.proofs.ship_modes.add_modes.Given as goal

abbrev pub invariant-loop-place : goal.invariant-loop-place
invariant-loop-place l = Adding l.fn.known l.known l.modes.texts l.codes l.met.items l.place
