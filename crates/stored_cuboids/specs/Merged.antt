-- The runs of a stored cuboid as one list of cells. Our own.
use Rattle.std.specs.Prelude.{List, [], ◌∷◌, ◌≡◌, take}
use Rattle.cube_model.specs.Admission.{all_rows}
use Rattle.cuboid_cells.specs.Cells.{AreProperCells, PlainCells}
use Rattle.cuboid_cells.specs.Merges.{IsMergeOf}
use Rattle.cuboid_cells.specs.Steps.{cells_of}
use Rattle.cuboid_upkeep.specs.Grouping.{RepresentRows}
use Rattle.warehouse_objects.specs.Warehouse.{Cuboid, StoredRun, Warehouse, ship_modes_of}

-- cells with those of runs merged in, one run after another. Each merge keeps the rules of cells: no number exceeds its
-- type
abbrev pub AreMergedWith : PlainCells → List StoredRun → PlainCells → Type 0
AreMergedWith cells [] new = new ≡ cells
AreMergedWith cells (run ∷ runs) new =
    (next : PlainCells) × IsMergeOf cells (cells_of cells.view run.cells) next × AreProperCells next
    × AreMergedWith next runs new

-- the runs of a cuboid as one list of cells
abbrev pub HasMerge : Cuboid → PlainCells → Type 0
HasMerge cuboid cells = AreMergedWith (cells_of cuboid.view []) cuboid.runs cells

-- the cells of a cuboid, all runs together, are the grouping of the batches up to its mark
pub record IsSound (w : Warehouse) (cuboid : Cuboid) : Type 0 where
  pub cells : PlainCells
  pub merge : HasMerge cuboid cells
  pub grouping : RepresentRows w.rows (ship_modes_of w) (all_rows (take cuboid.mark w.batches)) cells
