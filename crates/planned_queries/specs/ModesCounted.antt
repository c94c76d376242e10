-- Counting the batches of a warehouse into a fold of a query that looks at ship modes. Our own.
use Rattle.std.specs.Prelude.{◌≡◌, ℕ, List, Some, true, slice_get}
use Rattle.cube_model.specs.declared.query.Query.{Query}
use Rattle.cube_model.specs.declared.rows.DimRows.{DimRows}
use Rattle.cube_model.specs.declared.rows.LineOrder.{LineOrder}
use Rattle.cuboid_cells.specs.Cells.{PlainCells}
use Rattle.cuboid_upkeep.specs.Grouping.{RepresentRows}
use Rattle.lattice.specs.declared.view.View.{View}
use Rattle.lattice.specs.Determined.{Serves}
use Rattle.mode_folds.specs.States.{ModeFoldState, TakesByModes}
use Rattle.object_store.specs.Content.{Content}
use Rattle.warehouse_objects.specs.Represents.{Represents}
use Rattle.warehouse_objects.specs.Warehouse.{Warehouse}

-- a view serves a query and groups by ship mode
pub record ServesWithModes (query : Query) (view : View) : Type 0 where
  pub serves : Serves view query
  pub grouped : view.ship_mode ≡ true

-- the cells of a view represent fact rows, by a list of ship modes
pub record AreCellsOf (dimensions : DimRows) (modes : List (List ℕ)) (view : View) (rows : List LineOrder)
    (cells : PlainCells) : Type 0 where
  pub view_is : cells.view ≡ view
  pub represent : RepresentRows dimensions modes rows cells

-- Where the device keeps its word and the content represents a warehouse, the rows of its batch after so many others
-- were counted into a fold.
abbrev pub CountsBatchByModes : DimRows → ModeFoldState → ModeFoldState → ℕ → Type 0 → Content → Type 0
CountsBatchByModes dimensions old new before keeps content = keeps → (w : Warehouse) → Represents content w
    → (batch : List LineOrder) × (slice_get w.batches before ≡ Some batch) × TakesByModes dimensions old batch new
