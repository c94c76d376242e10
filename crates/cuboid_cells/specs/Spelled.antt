-- How a run of cells is spelled. A view that does not group by ship mode has cells of 160 bytes, with four codes; one
-- that does has cells of 162 bytes, with a fifth. Our layout.
use Rattle.std.specs.Prelude.{◌≡◌, ℕ, ◌+◌, ◌<◌, ◌^◌, Bool, true, false, Option, Some, List, [], ◌++◌, length, codes}
use Rattle.std.specs.List.{flat_map}
use Rattle.wire.specs.Spelling.{signed_spelling, spelling}
use Rattle.lattice.specs.Views.{index_of}
use Rattle.cuboid_cells.specs.declared.cell.Cell.{Cell}
use Rattle.cuboid_cells.specs.declared.key.Key.{Key}
use Rattle.cuboid_cells.specs.declared.span.Span.{Span}
use Rattle.cuboid_cells.specs.declared.summary.Summaries.{Summaries}
use Rattle.cuboid_cells.specs.declared.summary.Summary.{Summary}
use Rattle.cuboid_cells.specs.Cells.{AreProperCells, PlainCells}

-- the first bytes of a run, where the view does not group by ship mode and where it does
abbrev pub name_of : Bool → List ℕ
name_of false = codes "CEL1"
name_of true = codes "CEL2"

-- the fifth code, if there is one
abbrev pub mode_of : Bool → ℕ → List ℕ
mode_of false code = []
mode_of true code = spelling 2 code

-- its bytes
abbrev pub mode_bytes : Bool → ℕ
mode_bytes false = 0
mode_bytes true = 2

-- the bytes of a cell
abbrev pub cell_bytes : Bool → ℕ
cell_bytes grouped = 160 + mode_bytes grouped

-- the codes of a key
abbrev pub key_codes : Bool → Key → List ℕ
key_codes grouped key =
    spelling 2 key.customer ++ (spelling 2 key.supplier ++ (spelling 2 key.part
    ++ (spelling 2 key.date ++ mode_of grouped key.ship_mode)))

-- the 24 bytes of a measure
abbrev pub summary_of : Summary → List ℕ
summary_of summary = signed_spelling summary.sum ++ (signed_spelling summary.least ++ signed_spelling summary.greatest)

-- the 144 bytes of the measures
abbrev pub summaries_of : Summaries → List ℕ
summaries_of measures =
    summary_of measures.quantity ++ (summary_of measures.extendedprice ++ (summary_of measures.revenue
    ++ (summary_of measures.supplycost ++ (summary_of measures.discounted ++ summary_of measures.profit))))

-- a cell: the codes, how many rows, the measures
abbrev pub cell_of : Bool → Cell → List ℕ
cell_of grouped cell = key_codes grouped cell.key ++ (spelling 8 cell.count ++ summaries_of cell.measures)

-- the 20 bytes before the cells: the name, the view's number, the batches, how many cells
abbrev pub run_header : List ℕ → ℕ → ℕ → ℕ → ℕ → List ℕ
run_header name view from to cells =
    name ++ (spelling 4 view ++ (spelling 4 from ++ (spelling 4 to ++ spelling 4 cells)))

-- the bytes of a run: the header, each cell
abbrev pub run_of : Span → PlainCells → List ℕ
run_of span plain =
    run_header (name_of plain.view.ship_mode) (index_of plain.view) span.from span.to (length plain.cells)
    ++ flat_map (cell_of plain.view.ship_mode) plain.cells

-- batches that a run can hold: at least one
pub record IsSpan (span : Span) : Type 0 where
  pub some : span.from < span.to
  pub fits : span.to < 2 ^ 32

-- the bytes are those of a run of proper cells: there is no other spelling of it
pub record IsRun (bytes : List ℕ) (batches : Span) (plain : PlainCells) : Type 0 where
  pub spelled : bytes ≡ run_of batches plain
  pub span : IsSpan batches
  pub proper : AreProperCells plain

-- there is no text, or it is that of no run
abbrev pub HoldsNoRun : Option (List ℕ) → Type 0
HoldsNoRun text = (bytes : List ℕ) (span : Span) (plain : PlainCells) → text ≡ Some bytes → IsRun bytes span plain → ⊥
