use Rattle.std.proofs.Common.{◌≡◌, ◌++◌, take}
use Rattle.std.specs.List.{flat_map}
use Rattle.cuboid_cells.specs.Spelled.{cell_of}
use Rattle.cuboid_cells.proofs.encoding.push_cells.Given as goal

abbrev pub invariant-loop-cell : goal.invariant-loop-cell
invariant-loop-cell l = l.out.items ≡ l.initial.out.items ++ flat_map (cell_of l.ship_modes) (take l.cell-index l.cells)
