use Rattle.std.proofs.Common.{◌≡◌, ◌<◌, ℕ, length, get_or}
use Rattle.std.specs.Option.{option_map}
use Rattle.dictionary.specs.Columns.{text_of_code}
use Rattle.cuboid_upkeep.specs.Codes.{modes_of}
use Rattle.cuboid_upkeep.specs.Modes.{code_among}
use Rattle.cuboid_upkeep.proofs.mode_codes.put_codes.Given as goal

abbrev pub invariant-loop-place : goal.invariant-loop-place
invariant-loop-place g l =
    let modes = modes_of (option_map (λ modes. modes.now) l.fn.modes) in
    (length l.codes ≡ length l.initial.codes)
    × ((k : ℕ) → k < l.place → get_or l.codes k 0 ≡ code_among modes (text_of_code (g.F.ModeRows.modes l.rows) k))
