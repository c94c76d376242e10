-- Cells while fact rows are grouped, in the order of the first rows of their keys. Our own.
use Rattle.std.specs.Prelude.{◌≡◌, ◌⊎◌, ℕ, ◌+◌, ◌≤◌, ◌<◌, nat_eq, Some, List, [], ◌∷◌, length, map, slice_index_or}
use Rattle.std.specs.Prelude.{slice_set, All}
use Rattle.std.specs.List.{IsDistinct}
use Rattle.cube_model.specs.declared.fault.Fault.{Fault}
use Rattle.cube_model.specs.declared.fault.Fault.TheVariants.{BadLayout, Memory, TooManyCells}
use Rattle.cube_model.specs.declared.rows.DimRows.{DimRows}
use Rattle.cube_model.specs.declared.rows.LineOrder.{LineOrder}
use Rattle.lattice.specs.declared.view.View.{View}
use Rattle.lattice.specs.Views.{index_of}
use Rattle.cuboid_cells.specs.declared.cell.Cell.{Cell}
use Rattle.cuboid_cells.specs.declared.key.Key.{Key}
use Rattle.cuboid_cells.specs.Cells.{CellFits, IsCellOf, IsKeyOf, KeyFits, cell_at, key_as_number}
use Rattle.cuboid_cells.specs.Limits.{most_cells}
use Rattle.cuboid_cells.specs.Merges.{merged, merged_if_any}
use Rattle.cuboid_upkeep.specs.Grouping.{Group, HasMembers, NumbersFit, PassType, RepresentRows, cell_over, key_of}

-- a cell of a view whose numbers fit their fields
pub record IsGood (view : View) (cell : Cell) : Type 0 where
  pub is_cell : IsCellOf view cell
  pub fits : CellFits cell

-- the key of a fact row, which has its members
pub record IsRowKey (dimensions : DimRows) (modes : List (List ℕ)) (view : View) (row : LineOrder) (key : Key) : Type 0
  where
    pub is : key ≡ key_of dimensions modes view row
    pub of : IsKeyOf view key
    pub fits : KeyFits key
    pub members : HasMembers dimensions modes view row

-- the cell of one fact row, which has its members
pub record IsCellOfRow (dimensions : DimRows) (modes : List (List ℕ)) (view : View) (row : LineOrder)
    (cell : Cell) : Type 0 where
  pub is : cell_over dimensions modes view (row ∷ []) ≡ Some cell
  pub good : IsGood view cell
  pub members : HasMembers dimensions modes view row

-- why a fact row has no cell: it has not its members, or one of its numbers passes its type
abbrev pub HasNoCell : DimRows → List (List ℕ) → View → LineOrder → Type 0
HasNoCell dimensions modes view row =
    (HasMembers dimensions modes view row → ⊥)
    ⊎ ((cell : Cell) × (cell_over dimensions modes view (row ∷ []) ≡ Some cell) × (NumbersFit cell → ⊥))

-- cells by the numbers of their keys, in the order that these came, no two of one key
pub record AreKeyed (keys : List ℕ) (cells : List Cell) : Type 0 where
  pub keys_are : keys ≡ map (λ cell. key_as_number cell.key) cells
  pub once : IsDistinct nat_eq keys

-- a cell was taken in: that of its key is the merge of both
pub record TakesIn (old : List Cell) (cell : Cell) (new : List Cell) : Type 0 where
  pub longer : length new ≤ length old + 1
  pub good : (view : View) → All (IsGood view) old → IsGood view cell → All (IsGood view) new
  pub by_key : (number : ℕ) → cell_at number new ≡ merged_if_any (cell_at number old) (cell_at number (cell ∷ []))

-- the merge of both passes a number's type
pub record Overflows (old : List Cell) (cell : Cell) : Type 0 where
  pub before : Cell
  pub is : cell_at (key_as_number cell.key) old ≡ Some before
  pub passes : CellFits (merged before cell) → ⊥

-- the cell at a place became its merge with another
pub record MergesAt (old : List Cell) (place : ℕ) (cell : Cell) (new : List Cell) : Type 0 where
  pub before : Cell
  pub before_is : before ≡ slice_index_or old place before
  pub fits : CellFits (merged before cell)
  pub is : new ≡ slice_set old place (merged before cell)

-- that merge passes a number's type
pub record OverflowsAt (cells : List Cell) (place : ℕ) (cell : Cell) : Type 0 where
  pub before : Cell
  pub before_is : before ≡ slice_index_or cells place before
  pub passes : CellFits (merged before cell) → ⊥

-- fact rows were grouped
pub record AreGrouped (dimensions : DimRows) (modes : List (List ℕ)) (view : View) (rows : List LineOrder)
    (cells : List Cell) : Type 0 where
  pub few : length cells ≤ length rows
  pub known : All (HasMembers dimensions modes view) rows
  pub once : IsDistinct nat_eq (map (λ cell. key_as_number cell.key) cells)
  pub good : All (IsGood view) cells
  pub group : Group dimensions modes view rows cells

-- why fact rows are not grouped: one has not its members, or numbers pass their type
abbrev pub AreUnfit : DimRows → List (List ℕ) → View → List LineOrder → Type 0
AreUnfit dimensions modes view rows = (All (HasMembers dimensions modes view) rows → ⊥)
    ⊎ PassType dimensions modes view rows

-- the cells of a view that represent fact rows are more than a cuboid can have
pub record HaveTooMany (dimensions : DimRows) (modes : List (List ℕ)) (view : View) (rows : List LineOrder) : Type 0
  where
    pub cells : List Cell
    pub represent : RepresentRows dimensions modes rows (record { view = view; cells = cells })
    pub many : most_cells < length cells

-- why fact rows are not added to others
abbrev pub IsAddFault : DimRows → List (List ℕ) → View → List LineOrder → Fault → Type 0
IsAddFault dimensions modes view rows fault =
    (fault ≡ Memory)
    ⊎ (((fault ≡ BadLayout) × AreUnfit dimensions modes view rows)
    ⊎ ((fault ≡ TooManyCells (index_of view)) × HaveTooMany dimensions modes view rows))
