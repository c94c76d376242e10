use Rattle.cuboid_upkeep.specs.Growing.{GrowOver}
use Rattle.test_cuboids.proofs.cells.most_cells.take_in_most.Given as goal

abbrev pub invariant-loop-first : goal.invariant-loop-first
invariant-loop-first l = GrowOver l.dims l.cells
