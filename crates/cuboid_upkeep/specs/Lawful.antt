-- What the definitions mean. Each is proved as the contract of a function of its name.
use Rattle.std.specs.Prelude.{◌≡◌, ℕ, Option, List, ◌++◌, length, ◌<◌, ◌≤◌, ◌^◌, All}
use Rattle.cube_model.specs.declared.query.Query.{Query}
use Rattle.cube_model.specs.declared.rows.DimRows.{DimRows}
use Rattle.cube_model.specs.declared.rows.LineOrder.{LineOrder}
use Rattle.cube_model.specs.Admission.{AreInRange}
use Rattle.group_numbers.specs.Numbers.{IsGroupNumber}
use Rattle.lattice.specs.Determined.{Serves}
use Rattle.lattice.specs.declared.view.View.{View}
use Rattle.cuboid_cells.specs.declared.cell.Cell.{Cell}
use Rattle.cuboid_cells.specs.Cells.{PlainCells, key_as_number}
use Rattle.cuboid_cells.specs.Merges.{IsMergeOf}
use Rattle.cuboid_upkeep.specs.Grouping.{HasMembers, PassType, RepresentRows, key_of}
use Rattle.dimensions.specs.Shown.{AreStorable}

-- the cells of fact rows put end to end are the merge of their cells
abbrev pub MergesRepresentBoth : Type 0
MergesRepresentBoth =
    (dimensions : DimRows) (modes : List (List ℕ)) (rows others : List LineOrder) (one other new : PlainCells)
    → one.view ≡ other.view → RepresentRows dimensions modes rows one → RepresentRows dimensions modes others other
    → IsMergeOf one other new → RepresentRows dimensions modes (rows ++ others) new

-- Cells represent the same rows when modes are added after the others: the codes of those that were there stay.
abbrev pub ModesAreAddedAfter : Type 0
ModesAreAddedAfter = (dimensions : DimRows) (modes more : List (List ℕ)) (rows : List LineOrder) (plain : PlainCells)
    → RepresentRows dimensions modes rows plain → RepresentRows dimensions (modes ++ more) rows plain

-- fact rows have one list of cells
abbrev pub CellsAreTheOne : Type 0
CellsAreTheOne = (dimensions : DimRows) (modes : List (List ℕ)) (rows : List LineOrder) (one other : PlainCells)
    → one.view ≡ other.view → RepresentRows dimensions modes rows one → RepresentRows dimensions modes rows other
    → one ≡ other

-- no cell of fact rows passes a type where the sums of the rows are in range
abbrev pub RowsInRangeFit : Type 0
RowsInRangeFit = (dimensions : DimRows) (modes : List (List ℕ)) (view : View) (rows : List LineOrder)
    → AreInRange rows → length rows < 2 ^ 63 → PassType dimensions modes view rows → ⊥

-- Fact rows of one key in a view, given by its number, are in one group of each query that the view serves, or in none.
abbrev pub OneKeyOneGroup : Type 0
OneKeyOneGroup = (dimensions : DimRows) → AreStorable dimensions
    → (modes : List (List ℕ)) (view : View) (query : Query) (row other : LineOrder) (number : Option ℕ)
    → Serves view query → HasMembers dimensions modes view row → HasMembers dimensions modes view other
    → key_as_number (key_of dimensions modes view row) ≡ key_as_number (key_of dimensions modes view other)
    → IsGroupNumber dimensions query row number → IsGroupNumber dimensions query other number

-- fact rows that have their members have cells
abbrev pub RowsHaveCells : Type 0
RowsHaveCells = (dimensions : DimRows) (modes : List (List ℕ)) (view : View) (rows : List LineOrder)
    → All (HasMembers dimensions modes view) rows
    → (cells : List Cell) × RepresentRows dimensions modes rows (record { view = view; cells = cells })

-- cells of some of the fact rows are no more than those of all
abbrev pub MoreRowsHaveNoFewerCells : Type 0
MoreRowsHaveNoFewerCells =
    (dimensions : DimRows) (modes : List (List ℕ)) (view : View) (before rows after : List LineOrder)
    (one other : List Cell)
    → RepresentRows dimensions modes rows (record { view = view; cells = one })
    → RepresentRows dimensions modes (before ++ (rows ++ after)) (record { view = view; cells = other })
    → length one ≤ length other
