-- The runs of a stored cuboid, counted into a fold one after another.
use Rattle.std.specs.Prelude.{◌≡◌, ℕ, List, take}
use Rattle.cube_model.specs.Admission.{all_rows}
use Rattle.cube_model.specs.declared.rows.DimRows.{DimRows}
use Rattle.cube_model.specs.declared.rows.LineOrder.{LineOrder}
use Rattle.cube_query.specs.Groups.{FoldState, RepresentsRows, Takes}
use Rattle.cuboid_cells.specs.Cells.{PlainCells}
use Rattle.cuboid_cells.specs.declared.head.RunHead.{RunHead}
use Rattle.cuboid_cells.specs.declared.span.Span.{Span}
use Rattle.cuboid_upkeep.specs.Grouping.{RepresentRows}
use Rattle.lattice.specs.declared.view.View.{View}
use Rattle.object_store.specs.Content.{Content}
use Rattle.warehouse_objects.specs.Warehouse.{Cuboid, Warehouse}
use Rattle.stored_cuboids.specs.Steps.{AreRead, GoesOn, ObjectIsRun, run_head_of}
use Rattle.stored_cuboids.specs.declared.reading.Progress.{Progress}

-- an object of a content is counted into a fold: its header goes on where the runs so far end, and where it is a run,
-- the fold takes the rows that the cells of the run represent
pub record CountsRun (content : Content) (id : ℕ) (view : View) (at : Progress) (dimensions : DimRows)
    (modes : List (List ℕ)) (old new : FoldState) (next : Progress) : Type 0 where
  pub head : RunHead
  pub goes_on : GoesOn view at head next
  pub takes : (span : Span) (cells : PlainCells) → ObjectIsRun content id span cells
      → (head ≡ run_head_of span cells)
      × ((rows : List LineOrder) → RepresentRows dimensions modes rows cells → Takes dimensions old rows new)

-- so many runs of a cuboid are read, and a fold represents the rows of their batches
pub record AreCounted (w : Warehouse) (cuboid : Cuboid) (dimensions : DimRows) (count : ℕ) (fold : FoldState)
    (at : Progress) : Type 0 where
  pub read : AreRead cuboid count at
  pub represents : RepresentsRows dimensions fold (all_rows (take at.end w.batches))
