-- Cells in a table by the numbers of their keys. A slot whose cell groups no row is free. Our own.
use Rattle.std.specs.Prelude.{◌≡◌, ℕ, suc, Bool, true, cond, nat_lt, List, [], ◌∷◌, ◌++◌, length, take, slice_index_or}
use Rattle.std.specs.Prelude.{slice_set}
use Rattle.std.specs.List.{filter}
use Rattle.cube_model.specs.declared.rows.DimRows.{DimRows}
use Rattle.cube_model.specs.declared.rows.LineOrder.{LineOrder}
use Rattle.lattice.specs.declared.view.View.{View}
use Rattle.cuboid_cells.specs.declared.cell.Cell.{Cell}
use Rattle.cuboid_cells.specs.Cells.{CellFits, PlainCells}
use Rattle.cuboid_cells.specs.Merges.{merged}
use Rattle.cuboid_upkeep.specs.Grouping.{RepresentRows}
use Rattle.cuboid_upkeep.specs.Steps.{IsGood}
use Rattle.cuboid_upkeep.specs.declared.member_codes.ViewMembers.{ViewMembers}
use Rattle.cuboid_upkeep.specs.Numbers.{LiesIn, key_place}

-- a slot is in use
abbrev pub slot_is_used : Cell → Bool
slot_is_used slot = nat_lt 0 slot.count

-- the cells of the slots that are in use
abbrev pub used : List Cell → List Cell
used slots = filter slot_is_used slots

-- the cells of a table of a view
abbrev pub cells_in : View → List Cell → PlainCells
cells_in view slots = record { view = view; cells = used slots }

-- a cell of a view has a number
pub record HasNumber (view : View) (members : ViewMembers) (place : ℕ) (cell : Cell) : Type 0 where
  pub lies : LiesIn members cell.key
  pub place_is : key_place members cell.key ≡ place
  pub good : IsGood view cell

-- each slot that is in use, from a number on, has the cell of its number
abbrev pub SlotsHaveCells : View → ViewMembers → ℕ → List Cell → Type 0
SlotsHaveCells view members place [] = Unit {0}
SlotsHaveCells view members place (slot ∷ slots) = (slot_is_used slot ≡ true → HasNumber view members place slot)
    × SlotsHaveCells view members (suc place) slots

-- a cell taken in where another may be
abbrev pub taken : Cell → Cell → Cell
taken slot cell = cond (slot_is_used slot) (merged slot cell) cell

-- a cell was taken in at a place
pub record TakesAt (old : List Cell) (place : ℕ) (cell : Cell) (new : List Cell) : Type 0 where
  pub slot : Cell
  pub slot_is : slot ≡ slice_index_or old place slot
  pub fits : CellFits cell → CellFits (taken slot cell)
  pub is : new ≡ slice_set old place (taken slot cell)

-- the slot at a place is in use, and its merge with a cell passes a number's type
pub record PassesAt (slots : List Cell) (place : ℕ) (cell : Cell) : Type 0 where
  pub slot : Cell
  pub slot_is : slot ≡ slice_index_or slots place slot
  pub in_use : slot_is_used slot ≡ true
  pub passes : CellFits (merged slot cell) → ⊥

-- the cells of the first of some fact rows, so many, were taken in by the numbers of their keys
pub record IsTaken (dimensions : DimRows) (view : View) (members : ViewMembers) (rows : List LineOrder) (count : ℕ)
    (old new : List Cell) : Type 0 where
  pub size : length new ≡ length old
  pub slots : SlotsHaveCells view members 0 new
  pub represent : (so_far : List LineOrder) → RepresentRows dimensions [] so_far (cells_in view old)
      → RepresentRows dimensions [] (so_far ++ take count rows) (cells_in view new)
