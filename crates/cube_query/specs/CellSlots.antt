-- The slots of the groups of cells. Our own.
use Rattle.std.specs.Prelude.{◌≡◌, ℕ, Option, List, [], ◌∷◌}
use Rattle.std.specs.List.{Contains}
use Rattle.std.specs.declared.alloc.Global.{Global}
use Rattle.std.specs.declared.vec.Vec.{Vec}
use Rattle.cube_model.specs.declared.measure.Agg.{Agg}
use Rattle.cube_model.specs.declared.query.Query.{Query}
use Rattle.cube_model.specs.declared.rows.DimRows.{DimRows}
use Rattle.cube_model.specs.declared.rows.LineOrder.{LineOrder}
use Rattle.cuboid_cells.specs.declared.cell.Cell.{Cell}
use Rattle.lattice.specs.declared.view.View.{View}
use Rattle.cuboid_upkeep.specs.CellNumbers.{AskedOfCells}
use Rattle.cuboid_upkeep.specs.Representatives.{AreRepresentatives, IsRepresentative}
use Rattle.cube_query.specs.CellTallies.{with_cells}
use Rattle.group_tallies.specs.Columns.{tallies_at}
use Rattle.group_tallies.specs.FoldInvariant.{AreGroupSlots, IsGroupSlot}
use Rattle.group_tallies.specs.declared.tally.Tally.{Tally}

-- a query over dimensions that is asked of the cells of a view
abbrev pub asked_of : DimRows → Query → View → List (List ℕ) → AskedOfCells
asked_of dimensions query view modes = record { dimensions = dimensions; query = query; view = view; modes = modes }

-- the slot of the group of a row that represents a cell, and none where the row is not selected
pub record IsCellSlot (asked : AskedOfCells) (entries : List (ℕ × ℕ)) (cell : Cell) (group_slot : Option ℕ) : Type 0
  where
    pub row : LineOrder
    pub represents : IsRepresentative asked.dimensions asked.modes asked.view cell row
    pub slot : IsGroupSlot asked.dimensions asked.query entries row group_slot

-- the slots of the groups of cells: those of rows that represent them
pub record AreCellSlots (asked : AskedOfCells) (entries : List (ℕ × ℕ)) (cells : List Cell)
    (group_slots : List (Option ℕ)) : Type 0 where
  pub rows : List LineOrder
  pub represent : AreRepresentatives asked.dimensions asked.modes asked.view cells rows
  pub slots : AreGroupSlots asked.dimensions asked.query entries rows group_slots

-- a cell is merged into columns at the slot of its group, if its rows are selected
pub record IsMergedIn (asked : AskedOfCells) (aggs : List Agg) (entries : List (ℕ × ℕ)) (cell : Cell)
    (old new : List (Vec Tally Global)) : Type 0 where
  pub group_slot : Option ℕ
  pub own : IsCellSlot asked entries cell group_slot
  pub merged : (slot : ℕ)
      → tallies_at new slot ≡ with_cells aggs slot (cell ∷ []) (group_slot ∷ []) (tallies_at old slot)

-- cells are, one after another
pub record AreMergedIn (asked : AskedOfCells) (aggs : List Agg) (entries : List (ℕ × ℕ)) (cells : List Cell)
    (old new : List (Vec Tally Global)) : Type 0 where
  pub group_slots : List (Option ℕ)
  pub slots : AreCellSlots asked entries cells group_slots
  pub merged : (slot : ℕ) → tallies_at new slot ≡ with_cells aggs slot cells group_slots (tallies_at old slot)

-- no row represents a cell
abbrev pub HasNoRepresentative : AskedOfCells → Cell → Type 0
HasNoRepresentative asked cell = (row : LineOrder) → IsRepresentative asked.dimensions asked.modes asked.view cell row
    → ⊥

-- and so it is with one of the cells
pub record HaveNoRepresentative (asked : AskedOfCells) (cells : List Cell) : Type 0 where
  pub cell : Cell
  pub among : Contains cells cell
  pub none : HasNoRepresentative asked cell
