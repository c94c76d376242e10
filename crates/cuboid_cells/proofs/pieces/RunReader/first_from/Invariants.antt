use Rattle.std.proofs.Common.{◌-◌, ◌≤◌, List}
use Rattle.wire.specs.Runs.{HasRead}
use Rattle.cuboid_cells.specs.Pieces.{AreLeft, AreParted}
use Rattle.cuboid_cells.specs.declared.cell.Cell.{Cell}
use Rattle.cuboid_cells.proofs.pieces.RunReader.first_from.Given as goal

abbrev pub decreases-loop-range : goal.decreases-loop-range
decreases-loop-range g l = l.range.to - l.range.from

abbrev pub invariant-loop-range : goal.invariant-loop-range
invariant-loop-range g l = record {
  read : HasRead g.S.Source l.fn.source l.source;
  from : l.fn.self.done ≤ l.range.from;
  order : l.range.from ≤ l.range.to;
  to : l.range.to ≤ l.fn.self.head.count;
  parted : g.S.Source.keeps_word l.source → (left : List Cell)
      → AreLeft (g.S.Source.texts l.fn.source l.fn.self.id) l.fn.self left
      → AreParted l.least (l.range.from - l.fn.self.done) (l.range.to - l.fn.self.done) left;
}
