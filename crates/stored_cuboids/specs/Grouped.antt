-- Grouping a batch of a store into cells. Our own.
use Rattle.std.specs.Prelude.{◌≡◌, ◌⊎◌, ℕ, List, ◌++◌, Some, slice_get}
use Rattle.cube_model.specs.declared.fault.Fault.{Fault}
use Rattle.cube_model.specs.declared.fault.Fault.TheVariants.{BadLayout, Device, Memory, TooManyCells}
use Rattle.cube_model.specs.declared.rows.DimRows.{DimRows}
use Rattle.cube_model.specs.declared.rows.LineOrder.{LineOrder}
use Rattle.object_store.specs.Content.{Content}
use Rattle.cuboid_cells.specs.Cells.{PlainCells}
use Rattle.cuboid_upkeep.specs.Grouping.{RepresentRows}
use Rattle.cuboid_upkeep.specs.Steps.{IsAddFault}
use Rattle.warehouse_objects.specs.Represents.{IsLaidOut}
use Rattle.warehouse_objects.specs.Warehouse.{Warehouse}

-- cells represent some fact rows
abbrev pub RepresentSomeRows : DimRows → List (List ℕ) → PlainCells → Type 0
RepresentSomeRows dimensions modes cells = (rows : List LineOrder) × RepresentRows dimensions modes rows cells

-- Fact rows were grouped into cells: whatever rows these represented, they represent them and for these after them.
pub record GroupsMore (dimensions : DimRows) (modes : List (List ℕ)) (old : PlainCells) (rows : List LineOrder)
    (new : PlainCells) : Type 0 where
  pub represent : (so_far : List LineOrder) → RepresentRows dimensions modes so_far old
      → RepresentRows dimensions modes (so_far ++ rows) new

-- Fact rows were grouped into cells. Where the device keeps its word and the content is that of a warehouse, whatever
-- the cells of its cuboids are, they are those of the batch after so many others.
pub record GroupsBatch (dimensions : DimRows) (modes : List (List ℕ)) (old new : PlainCells) (before : ℕ)
    (keeps : Type 0) (content : Content) : Type 0 where
  pub some : (rows : List LineOrder) × GroupsMore dimensions modes old rows new
  pub own : keeps → (w : Warehouse) → IsLaidOut content w
      → (batch : List LineOrder) × (slice_get w.batches before ≡ Some batch) × GroupsMore dimensions modes old batch new

-- why fact rows are not grouped into cells, whatever rows these represent
abbrev pub IsAddFaultOf : DimRows → List (List ℕ) → PlainCells → List LineOrder → Fault → Type 0
IsAddFaultOf dimensions modes old rows fault = (so_far : List LineOrder) → RepresentRows dimensions modes so_far old
    → IsAddFault dimensions modes old.view (so_far ++ rows) fault

-- with which faults the grouping of batches by the view of a number is refused
abbrev pub EndsGrouping : ℕ → Fault → Type 0
EndsGrouping number fault =
    (fault ≡ Memory) ⊎ ((fault ≡ Device) ⊎ ((fault ≡ BadLayout) ⊎ (fault ≡ TooManyCells number)))
