use Rattle.std.proofs.Common.{◌+◌, ◌≤◌, length}
use Rattle.cuboid_cells.proofs.MergingLemmas.{Merging}
use Rattle.cuboid_cells.proofs.merging.merge_cells.Given as goal

abbrev pub invariant-loop : goal.invariant-loop
invariant-loop l = record {
  state : Merging l.view l.one l.other l.cells.items l.left l.right;
  room : l.counter + (length l.left + length l.right) ≤ length l.one + length l.other;
}
