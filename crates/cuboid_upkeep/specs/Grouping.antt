-- The plain grouping of fact rows by the levels of a view: a cell for each choice of members that some row has, with
-- the count of its rows and, for each measure, the sum, the least and the greatest of their numbers (Gray et al. 1997).
use Rattle.std.specs.Prelude.{◌≡◌, ℕ, ◌==◌, ◌<◌, ◌^◌, true, Option, Some, None, List, [], ◌∷◌, ◌++◌, length, map, All}
use Rattle.std.specs.List.{filter}
use Rattle.cube_model.specs.declared.attr.Axis.{Axis}
use Rattle.cube_model.specs.declared.attr.Axis.TheVariants.{Customer, Supplier, Part, Date}
use Rattle.cube_model.specs.declared.measure.Measure.{Measure}
use Rattle.cube_model.specs.declared.measure.Measure.TheVariants.{Quantity, ExtendedPrice, Revenue, SupplyCost}
use Rattle.cube_model.specs.declared.measure.Measure.TheVariants.{Discounted, Profit}
use Rattle.cube_model.specs.declared.rows.DimRows.{DimRows}
use Rattle.cube_model.specs.declared.rows.LineOrder.{LineOrder}
use Rattle.cube_model.specs.Aggregates.{greatest, least, total}
use Rattle.cube_model.specs.Attributes.{key_on}
use Rattle.cube_model.specs.Measures.{measure_of}
use Rattle.cube_model.specs.Places.{row_index_of}
use Rattle.group_numbers.specs.Numbers.{IsKnownOn}
use Rattle.lattice.specs.declared.level.Level.{Level}
use Rattle.lattice.specs.declared.level.Level.TheVariants as level
use Rattle.lattice.specs.declared.view.View.{View}
use Rattle.lattice.specs.Views.{level_on}
use Rattle.cuboid_cells.specs.declared.cell.Cell.{Cell}
use Rattle.cuboid_cells.specs.declared.key.Key.{Key}
use Rattle.cuboid_cells.specs.declared.summary.Summaries.{Summaries}
use Rattle.cuboid_cells.specs.declared.summary.Summary.{Summary}
use Rattle.cuboid_cells.specs.Cells.{AreAscending, PlainCells, SummariesFit, cell_at, key_as_number}
use Rattle.cuboid_upkeep.specs.Codes.{IsMode, member_code, mode_code}

-- the code of a fact row's member at a level of a dimension
abbrev pub code_on : DimRows → Axis → Level → LineOrder → ℕ
code_on dimensions axis level row = member_code dimensions axis level (row_index_of dimensions axis (key_on axis row))

-- the key of a fact row in a view, by a list of ship modes
abbrev pub key_of : DimRows → List (List ℕ) → View → LineOrder → Key
key_of dimensions modes view row = record {
  customer = code_on dimensions Customer view.customer row;
  supplier = code_on dimensions Supplier view.supplier row;
  part = code_on dimensions Part view.part row;
  date = code_on dimensions Date view.date row;
  ship_mode = mode_code view.ship_mode modes row.shipmode;
}

-- the fact rows of a key, given by its number
abbrev pub rows_of_number : DimRows → List (List ℕ) → View → ℕ → List LineOrder → List LineOrder
rows_of_number dimensions modes view number rows =
    filter (λ row. key_as_number (key_of dimensions modes view row) == number) rows

-- what is kept of a measure of fact rows
abbrev pub summary_over : Measure → List LineOrder → Summary
summary_over measure rows = record {
  sum = total (map (measure_of measure) rows);
  least = least (map (measure_of measure) rows);
  greatest = greatest (map (measure_of measure) rows);
}

-- and of each measure
abbrev pub summaries_over : List LineOrder → Summaries
summaries_over rows = record {
  quantity = summary_over Quantity rows;
  extendedprice = summary_over ExtendedPrice rows;
  revenue = summary_over Revenue rows;
  supplycost = summary_over SupplyCost rows;
  discounted = summary_over Discounted rows;
  profit = summary_over Profit rows;
}

-- the cell of fact rows of one key, where there are any
abbrev pub cell_over : DimRows → List (List ℕ) → View → List LineOrder → Option Cell
cell_over dimensions modes view [] = None
cell_over dimensions modes view (row ∷ rows) = Some (record {
  key = key_of dimensions modes view row;
  count = length (row ∷ rows);
  measures = summaries_over (row ∷ rows);
})

-- cells are given by keys: that of a key is the cell of the fact rows of the key
abbrev pub Group : DimRows → List (List ℕ) → View → List LineOrder → List Cell → Type 0
Group dimensions modes view rows cells = (number : ℕ)
    → cell_at number cells ≡ cell_over dimensions modes view (rows_of_number dimensions modes view number rows)

-- a fact row has a member at each level by which a view groups: its key is in the dimension, and its ship mode is one
-- of the modes where the view groups by it
pub record HasMembers (dimensions : DimRows) (modes : List (List ℕ)) (view : View) (row : LineOrder) : Type 0 where
  pub axes : (axis : Axis) → (level_on axis view ≡ level.All → ⊥) → IsKnownOn dimensions row axis
  pub ship_mode : view.ship_mode ≡ true → IsMode modes row.shipmode

-- the cells of a view represent fact rows: each row has its members, and the cells group the rows
pub record RepresentRows (dimensions : DimRows) (modes : List (List ℕ)) (rows : List LineOrder)
    (plain : PlainCells) : Type 0 where
  pub known : All (HasMembers dimensions modes plain.view) rows
  pub ascending : AreAscending plain.cells
  pub group : Group dimensions modes plain.view rows plain.cells

-- the count and the measures of a cell fit their fields
pub record NumbersFit (cell : Cell) : Type 0 where
  pub count : cell.count < 2 ^ 64
  pub measures : SummariesFit cell.measures

-- those of one key among some fact rows one after the other have a cell whose count, sum, least or greatest passes its
-- type
pub record PassType (dimensions : DimRows) (modes : List (List ℕ)) (view : View) (rows : List LineOrder) : Type 0 where
  pub before : List LineOrder
  pub part : List LineOrder
  pub after : List LineOrder
  pub number : ℕ
  pub cell : Cell
  pub parts : rows ≡ before ++ (part ++ after)
  pub is : cell_over dimensions modes view (rows_of_number dimensions modes view number part) ≡ Some cell
  pub passes : NumbersFit cell → ⊥
