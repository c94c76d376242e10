-- Cells that fact rows are grouped into. Our own.
use Rattle.std.specs.Prelude.{◌≡◌, false, length}
use Rattle.cube_model.specs.declared.rows.DimRows.{DimRows}
use Rattle.cuboid_cells.specs.Cells.{PlainCells}
use Rattle.cuboid_upkeep.specs.declared.growing.GrowingCells.{GrowingCells}
use Rattle.cuboid_upkeep.specs.declared.growing.GrowingCells.TheVariants.{ByNumber, Merged}
use Rattle.cuboid_upkeep.specs.declared.table.CellTable.{CellTable}
use Rattle.cuboid_upkeep.specs.Members.{AreMembersOf}
use Rattle.cuboid_upkeep.specs.Numbers.{AreFew, numbers_count}
use Rattle.cuboid_upkeep.specs.Slots.{SlotsHaveCells, cells_in}

-- the cells so far
abbrev pub grown : GrowingCells → PlainCells
grown (ByNumber table) = cells_in table.view table.slots.items
grown (Merged cells members) = cells

-- a table of the cells of fact rows over dimensions: there is a slot for each number
pub record IsTableOver (dimensions : DimRows) (table : CellTable) : Type 0 where
  pub no_modes : table.view.ship_mode ≡ false
  pub members : AreMembersOf dimensions table.view table.members
  pub few : AreFew table.members
  pub size : length table.slots.items ≡ numbers_count table.members
  pub slots : SlotsHaveCells table.view table.members 0 table.slots.items

-- a table is one over these dimensions, and elsewhere the codes are those of their members
abbrev pub GrowOver : DimRows → GrowingCells → Type 0
GrowOver dimensions (ByNumber table) = IsTableOver dimensions table
GrowOver dimensions (Merged cells members) = AreMembersOf dimensions cells.view members
