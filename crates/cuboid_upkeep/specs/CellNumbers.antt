-- The numbers of the groups that the cells of a view belong to in a query. Our own.
use Rattle.std.specs.Prelude.{◌≡◌, ℕ, ◌<◌, ◌≤◌, Bool, IfSome, Option, None, List}
use Rattle.std.specs.List.{list_all}
use Rattle.cube_model.specs.declared.attr.Axis.TheVariants.{Customer, Supplier, Part, Date}
use Rattle.cube_model.specs.declared.query.Query.{Query}
use Rattle.cube_model.specs.declared.rows.DimRows.{DimRows}
use Rattle.cube_model.specs.declared.rows.LineOrder.{LineOrder}
use Rattle.group_numbers.specs.Numbers.{IsGroupNumber}
use Rattle.group_numbers.specs.Parts.{holds_in}
use Rattle.lattice.specs.declared.view.View.{View}
use Rattle.cuboid_cells.specs.declared.cell.Cell.{Cell}
use Rattle.cuboid_cells.specs.Cells.{IsCellOf, KeyFits, key_as_number}
use Rattle.cuboid_upkeep.specs.Grouping.{HasMembers, key_of}
use Rattle.cuboid_upkeep.specs.MemberParts.{AreParts}
use Rattle.cuboid_upkeep.specs.Representatives.{IsRepresentative}
use Rattle.cuboid_upkeep.specs.declared.member_parts.MemberParts.{MemberParts}

-- a query over dimensions that is asked of the cells of a view, whose fifth codes are places among the modes
pub record AskedOfCells : Type 0 where
  pub dimensions : DimRows
  pub query : Query
  pub view : View
  pub modes : List (List ℕ)

-- the number of the group of a row that represents a cell: none where the row is not selected
pub record IsCellNumber (asked : AskedOfCells) (cell : Cell) (number : Option ℕ) : Type 0 where
  pub row : LineOrder
  pub represents : IsRepresentative asked.dimensions asked.modes asked.view cell row
  pub number_is : IsGroupNumber asked.dimensions asked.query row number

-- a row has the key of a cell, and is not selected
pub record HasUnselected (asked : AskedOfCells) (cell : Cell) : Type 0 where
  pub row : LineOrder
  pub members : HasMembers asked.dimensions asked.modes asked.view row
  pub key_is : key_of asked.dimensions asked.modes asked.view row ≡ cell.key
  pub number_is : IsGroupNumber asked.dimensions asked.query row None

-- a cell need not be looked at: where a row has its key, one has that is not selected
abbrev pub IsUnwanted : AskedOfCells → Cell → Type 0
IsUnwanted asked cell = (row : LineOrder) → HasMembers asked.dimensions asked.modes asked.view row
    → key_of asked.dimensions asked.modes asked.view row ≡ cell.key → HasUnselected asked cell

-- so it is with the cells of the view whose keys have numbers from one on and, if there is another, below that
abbrev pub AreUnwanted : AskedOfCells → ℕ → Option ℕ → Type 0
AreUnwanted asked from to = (cell : Cell) → IsCellOf asked.view cell → KeyFits cell.key → from ≤ key_as_number cell.key
    → IfSome to (λ end. key_as_number cell.key < end) → IsUnwanted asked cell

-- whether rows of zeros keep the conditions on the numbers of rows, and what the members of each level give
pub record AreTables (asked : AskedOfCells) (within : Bool) (customers suppliers parts dates : MemberParts) : Type 0
  where
    pub noughts : (row : LineOrder) → row.quantity ≡ 0 → row.discount ≡ 0
        → list_all (holds_in row) asked.query.conditions ≡ within
    pub by_customer : AreParts asked.dimensions asked.query Customer asked.view.customer customers
    pub by_supplier : AreParts asked.dimensions asked.query Supplier asked.view.supplier suppliers
    pub by_part : AreParts asked.dimensions asked.query Part asked.view.part parts
    pub by_date : AreParts asked.dimensions asked.query Date asked.view.date dates
