-- Cells of two sets of fact rows as those of both. Our own.
use Rattle.std.specs.Prelude.{◌≡◌, ◌⊎◌, ◌+ℤ◌, ℕ, ◌+◌, ◌<◌, List, Option, Some, None, length}
use Rattle.std.specs.Int.{int_max, int_min}
use Rattle.std.specs.List.{Contains}
use Rattle.cube_model.specs.declared.fault.Fault.{Fault}
use Rattle.cube_model.specs.declared.fault.Fault.TheVariants.{BadLayout, Memory, TooManyCells}
use Rattle.lattice.specs.Views.{index_of}
use Rattle.cuboid_cells.specs.declared.cell.Cell.{Cell}
use Rattle.cuboid_cells.specs.declared.summary.Summaries.{Summaries}
use Rattle.cuboid_cells.specs.declared.summary.Summary.{Summary}
use Rattle.cuboid_cells.specs.Cells.{AreAscending, CellFits, PlainCells, cell_at, key_as_number}
use Rattle.cuboid_cells.specs.Limits.{most_cells}

-- what is kept of the numbers of two sets of rows: the sum of the sums, the less of the least, the greater of the
-- greatest
abbrev pub merged_summary : Summary → Summary → Summary
merged_summary one other = record {
  sum = one.sum +ℤ other.sum;
  least = int_min one.least other.least;
  greatest = int_max one.greatest other.greatest;
}

-- the same for each measure
abbrev pub merged_summaries : Summaries → Summaries → Summaries
merged_summaries one other = record {
  quantity = merged_summary one.quantity other.quantity;
  extendedprice = merged_summary one.extendedprice other.extendedprice;
  revenue = merged_summary one.revenue other.revenue;
  supplycost = merged_summary one.supplycost other.supplycost;
  discounted = merged_summary one.discounted other.discounted;
  profit = merged_summary one.profit other.profit;
}

-- two cells of one key as one
abbrev pub merged : Cell → Cell → Cell
merged one other = record {
  key = one.key;
  count = one.count + other.count;
  measures = merged_summaries one.measures other.measures;
}

-- the same, where either may be missing
abbrev pub merged_if_any : Option Cell → Option Cell → Option Cell
merged_if_any None other = other
merged_if_any (Some one) None = Some one
merged_if_any (Some one) (Some other) = Some (merged one other)

-- the merge goes by keys: the cell of a key is the merge of the cells of that key
pub record AreMergeOf (one other cells : List Cell) : Type 0 where
  pub ascending : AreAscending cells
  pub by_key : (key : ℕ) → cell_at key cells ≡ merged_if_any (cell_at key one) (cell_at key other)

-- the cells of a view were merged
pub record IsMergeOf (one other new : PlainCells) : Type 0 where
  pub view : new.view ≡ one.view
  pub cells : AreMergeOf one.cells other.cells new.cells

-- two cells of one key whose merge passes a number's type
pub record PassesType (one other : List Cell) : Type 0 where
  pub left : Cell
  pub right : Cell
  pub in_one : Contains one left
  pub in_other : Contains other right
  pub key : key_as_number left.key ≡ key_as_number right.key
  pub passes : CellFits (merged left right) → ⊥

-- the merge has more cells than a cuboid can have
pub record HasTooMany (one other : List Cell) : Type 0 where
  pub cells : List Cell
  pub are : AreMergeOf one other cells
  pub many : most_cells < length cells

-- why cells are not merged
abbrev pub IsMergeFault : PlainCells → PlainCells → Fault → Type 0
IsMergeFault one other fault =
    (fault ≡ Memory)
    ⊎ (((fault ≡ BadLayout) × PassesType one.cells other.cells)
    ⊎ ((fault ≡ TooManyCells (index_of one.view)) × HasTooMany one.cells other.cells))
