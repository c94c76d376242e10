use Rattle.std.proofs.Common.{◌≡◌, ◌++◌, ℕ, List, length, take}
use Rattle.cube_model.specs.ShipModes.{modes_in}
use Rattle.ssb_eval.specs.ShipModes.{HasMet}
use Rattle.ssb_eval.proofs.ship_modes.ShipModes.add_rows.Given as goal

abbrev pub invariant-loop-place : goal.invariant-loop-place
invariant-loop-place l =
    (earlier modes : List (List ℕ)) → l.fn.before ≡ length modes → HasMet l.fn.self earlier modes
    → HasMet l.self earlier (modes ++ modes_in (take l.place l.rows))
