-- What a cell of a view is: the codes of its members, how many fact rows it groups, and for each measure what is kept
-- of the numbers of these rows. A view's cells are identified by their codes.
use Rattle.std.specs.Prelude.{◌≡◌, ℕ, ◌+◌, ◌*◌, ◌^◌, ◌<◌, ◌≤◌, ◌↔◌, ◌==◌, Bool, false, List, Option, length, All}
use Rattle.std.specs.Prelude.{FitsSigned}
use Rattle.std.specs.Int.{w64}
use Rattle.std.specs.List.{AllPairs, find}
use Rattle.lattice.specs.declared.level.Level.{Level}
use Rattle.lattice.specs.declared.level.Level.TheVariants as level
use Rattle.lattice.specs.declared.view.View.{View}
use Rattle.cuboid_cells.specs.declared.cell.Cell.{Cell}
use Rattle.cuboid_cells.specs.declared.key.Key.{Key}
use Rattle.cuboid_cells.specs.declared.summary.Summaries.{Summaries}
use Rattle.cuboid_cells.specs.declared.summary.Summary.{Summary}
use Rattle.cuboid_cells.specs.Limits.{all_code, most_cells}

-- the codes of a key as the digits of a number to the base 65,536, the customer's first: keys ascend by their codes
abbrev pub key_as_number : Key → ℕ
key_as_number key = (((key.customer * 65536 + key.supplier) * 65536 + key.part) * 65536 + key.date) * 65536
    + key.ship_mode

-- the code on an axis is that of every member exactly where the view does not group the axis
abbrev pub IsCodeAt : Level → ℕ → Type 0
IsCodeAt grouped code = (code ≡ all_code) ↔ (grouped ≡ level.All)

-- the same of ship modes, by which a view groups or not
abbrev pub IsModeCode : Bool → ℕ → Type 0
IsModeCode grouped code = (code ≡ all_code) ↔ (grouped ≡ false)

-- a key of a view
pub record IsKeyOf (view : View) (key : Key) : Type 0 where
  pub customer : IsCodeAt view.customer key.customer
  pub supplier : IsCodeAt view.supplier key.supplier
  pub part : IsCodeAt view.part key.part
  pub date : IsCodeAt view.date key.date
  pub ship_mode : IsModeCode view.ship_mode key.ship_mode

-- each code fits its field
pub record KeyFits (key : Key) : Type 0 where
  pub customer : key.customer < 2 ^ 16
  pub supplier : key.supplier < 2 ^ 16
  pub part : key.part < 2 ^ 16
  pub date : key.date < 2 ^ 16
  pub ship_mode : key.ship_mode < 2 ^ 16

-- the sum, the least and the greatest of a measure fit their fields
pub record SummaryFits (summary : Summary) : Type 0 where
  pub sum : FitsSigned w64 summary.sum
  pub least : FitsSigned w64 summary.least
  pub greatest : FitsSigned w64 summary.greatest

-- those of each measure do
pub record SummariesFit (measures : Summaries) : Type 0 where
  pub quantity : SummaryFits measures.quantity
  pub extendedprice : SummaryFits measures.extendedprice
  pub revenue : SummaryFits measures.revenue
  pub supplycost : SummaryFits measures.supplycost
  pub discounted : SummaryFits measures.discounted
  pub profit : SummaryFits measures.profit

-- each number of a cell fits its field
pub record CellFits (cell : Cell) : Type 0 where
  pub key : KeyFits cell.key
  pub count : cell.count < 2 ^ 64
  pub measures : SummariesFit cell.measures

-- the rules of a cell of a view: it groups some row
pub record IsCellOf (view : View) (cell : Cell) : Type 0 where
  pub key : IsKeyOf view cell.key
  pub count : 1 ≤ cell.count

-- cells ascend by their keys, so no two have one key
abbrev pub AreAscending : List Cell → Type 0
AreAscending cells = AllPairs (λ one other. key_as_number one.key < key_as_number other.key) cells

-- the cells of a view, wherever they lie in memory
pub record PlainCells : Type 0 where
  pub view : View
  pub cells : List Cell

-- each is a cell of a view, and they ascend
abbrev pub FollowRules : View → List Cell → Type 0
FollowRules view cells = All (IsCellOf view) cells × AreAscending cells

-- the rules of a view's cells, besides the ranges of their numbers
pub record KeepRules (view : View) (cells : List Cell) : Type 0 where
  pub few : length cells ≤ most_cells
  pub each : All (IsCellOf view) cells
  pub ascending : AreAscending cells

-- all of them
pub record AreProperCells (plain : PlainCells) : Type 0 where
  pub rules : KeepRules plain.view plain.cells
  pub fit : All CellFits plain.cells

-- the cell of a key, identified by its number, if there is one
abbrev pub cell_at : ℕ → List Cell → Option Cell
cell_at key cells = find (λ cell. key_as_number cell.key == key) cells
