-- What one step of a merge takes from the fronts of two lists of cells. Our own.
use Rattle.std.specs.Prelude.{◌≡◌, ◌⊎◌, ◌<◌, List, [], ◌∷◌, All}
use Rattle.lattice.specs.declared.view.View.{View}
use Rattle.cuboid_cells.specs.declared.cell.Cell.{Cell}
use Rattle.cuboid_cells.specs.declared.merging.Step.{Step}
use Rattle.cuboid_cells.specs.Cells.{CellFits, IsCellOf, PlainCells, key_as_number}
use Rattle.cuboid_cells.specs.Merges.{AreMergeOf, merged}

-- cells of a view, wherever they lie in memory
abbrev pub cells_of : View → List Cell → PlainCells
cells_of view cells = record { view = view; cells = cells }

-- a cell has a key below that of the first of cells
abbrev pub IsBelowFirst : Cell → List Cell → Type 0
IsBelowFirst cell [] = Unit {0}
IsBelowFirst cell (first ∷ cells) = key_as_number cell.key < key_as_number first.key

-- a cell was taken from the front of `cells`, and not from the others, where no cell has its key
pub record TakesOne (cells others : List Cell) (cell : Cell) (left others_left : List Cell) : Type 0 where
  pub taken : cells ≡ cell ∷ left
  pub stay : others_left ≡ others
  pub below : IsBelowFirst cell others

-- two cells of one key were taken as one
pub record TakesBoth (one other : List Cell) (cell : Cell) (one_left other_left : List Cell) : Type 0 where
  pub left : Cell
  pub right : Cell
  pub in_one : one ≡ left ∷ one_left
  pub in_other : other ≡ right ∷ other_left
  pub key : key_as_number left.key ≡ key_as_number right.key
  pub is : cell ≡ merged left right
  pub fits : CellFits cell

-- the cell of the lowest key was taken
abbrev pub IsStep : List Cell → List Cell → Step → Type 0
IsStep one other step =
    TakesOne one other step.cell step.one.now step.other.now
    ⊎ (TakesOne other one step.cell step.other.now step.one.now
    ⊎ TakesBoth one other step.cell step.one.now step.other.now)

-- the first cells have one key, and their merge passes a number's type
pub record HaveBadFirsts (one other : List Cell) : Type 0 where
  pub left : Cell
  pub right : Cell
  pub ones : List Cell
  pub others : List Cell
  pub in_one : one ≡ left ∷ ones
  pub in_other : other ≡ right ∷ others
  pub key : key_as_number left.key ≡ key_as_number right.key
  pub passes : CellFits (merged left right) → ⊥

-- cells of a view were merged, and are cells of that view
pub record AreMerged (view : View) (one other cells : List Cell) : Type 0 where
  pub merge : AreMergeOf one other cells
  pub each : All (IsCellOf view) cells
  pub fit : All CellFits cells
