use Rattle.cuboid_upkeep.specs.Keys.{AreRowNumbers}
use Rattle.cuboid_upkeep.proofs.row_numbers.put_numbers.Given as goal

abbrev pub invariant-loop-place : goal.invariant-loop-place
invariant-loop-place g l = AreRowNumbers l.dims l.view l.members (g.F.FactRows.rows l.rows) l.place l.numbers
