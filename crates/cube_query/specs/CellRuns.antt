-- The cells of a run, counted in as they are read. Our own.
use Rattle.std.specs.Prelude.{◌≡◌, ◌⊎◌, ℕ, Option, List, [], ◌∷◌, ◌++◌, All}
use Rattle.std.specs.declared.alloc.Global.{Global}
use Rattle.std.specs.declared.vec.Vec.{Vec}
use Rattle.cube_model.specs.declared.measure.Agg.{Agg}
use Rattle.cube_model.specs.declared.rows.DimRows.{DimRows}
use Rattle.cube_model.specs.declared.rows.LineOrder.{LineOrder}
use Rattle.cuboid_cells.specs.declared.cell.Cell.{Cell}
use Rattle.cuboid_cells.specs.Pieces.{AreLeft, RunPlace}
use Rattle.cuboid_cells.specs.Steps.{cells_of}
use Rattle.cuboid_upkeep.specs.CellNumbers.{AskedOfCells, IsUnwanted}
use Rattle.cuboid_upkeep.specs.Grouping.{RepresentRows}
use Rattle.cube_query.specs.CellSlots.{AreMergedIn}
use Rattle.cube_query.specs.Groups.{FoldState, Takes}
use Rattle.group_tallies.specs.declared.tally.Tally.{Tally}

-- of the cells that were left some were read, after others that need not be looked at
pub record ReadsWanted (asked : AskedOfCells) (text : Option (List ℕ)) (left : List Cell) (next : RunPlace)
    (cells : List Cell) : Type 0 where
  pub passed : List Cell
  pub rest : List Cell
  pub parts : left ≡ (passed ++ cells) ++ rest
  pub unwanted : All (IsUnwanted asked) passed
  pub now : AreLeft text next rest

-- cells without some of those that need not be looked at
abbrev pub LeavesOut : AskedOfCells → List Cell → List Cell → Type 0
LeavesOut asked [] wanted = wanted ≡ []
LeavesOut asked (cell ∷ cells) wanted = (IsUnwanted asked cell × LeavesOut asked cells wanted)
    ⊎ ((rest : List Cell) × (wanted ≡ cell ∷ rest) × LeavesOut asked cells rest)

-- these are merged into columns
pub record AreWantedMerged (asked : AskedOfCells) (aggs : List Agg) (entries : List (ℕ × ℕ)) (cells : List Cell)
    (old new : List (Vec Tally Global)) : Type 0 where
  pub wanted : List Cell
  pub out : LeavesOut asked cells wanted
  pub merged : AreMergedIn asked aggs entries wanted old new

-- where a text is a run, its cells that are left are merged into columns, but for some that need not be looked at
abbrev pub IsRunMerged : AskedOfCells → List Agg → List (ℕ × ℕ) → Option (List ℕ) → RunPlace → List (Vec Tally Global)
    → List (Vec Tally Global) → Type 0
IsRunMerged asked aggs entries text run old new = (cells : List Cell) → AreLeft text run cells
    → AreWantedMerged asked aggs entries cells old new

-- where a text is a run, a fold represents, with those before them, the fact rows that the cells that are left
-- represent
abbrev pub TakesRun : DimRows → List (List ℕ) → Option (List ℕ) → RunPlace → FoldState → FoldState → Type 0
TakesRun dimensions modes text run old new = (cells : List Cell) → AreLeft text run cells
    → (rows : List LineOrder) → RepresentRows dimensions modes rows (cells_of run.head.view cells)
    → Takes dimensions old rows new
