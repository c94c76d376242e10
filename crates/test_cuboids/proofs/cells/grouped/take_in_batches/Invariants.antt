use Rattle.cuboid_upkeep.specs.Growing.{GrowOver}
use Rattle.test_cuboids.proofs.cells.grouped.take_in_batches.Given as goal

abbrev pub invariant-loop-batch : goal.invariant-loop-batch
invariant-loop-batch l = GrowOver l.dims l.cells
