use Rattle.std.proofs.Common.{◌≡◌, ℕ, List, length}
use Rattle.cuboid_upkeep.specs.Keys.{AreRowKeys}
use Rattle.cuboid_upkeep.specs.Modes.{AreOwnCodes}
use Rattle.cuboid_upkeep.proofs.keys.put_keys.Given as goal

abbrev pub invariant-loop-place : goal.invariant-loop-place
invariant-loop-place g l =
    let rows = g.F.FactRows.rows l.rows in
    (length l.keys ≡ length rows)
    × ((modes : List (List ℕ)) → AreOwnCodes modes l.view (g.F.ModeRows.modes l.rows) l.codes
    → AreRowKeys l.dims modes l.view l.members rows l.place l.keys)
