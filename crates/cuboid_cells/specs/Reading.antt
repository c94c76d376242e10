-- What is read from the front of bytes, before any rule is looked at. Our own.
use Rattle.std.specs.Prelude.{◌≡◌, ℕ, ◌+◌, ◌*◌, ◌^◌, ◌<◌, ◌≤◌, Bool, false, List, ◌++◌, length, All}
use Rattle.std.specs.List.{flat_map}
use Rattle.lattice.specs.declared.view.View.{View}
use Rattle.lattice.specs.Views.{index_of}
use Rattle.cuboid_cells.specs.declared.cell.Cell.{Cell}
use Rattle.cuboid_cells.specs.declared.key.Key.{Key}
use Rattle.cuboid_cells.specs.declared.reading.Header.{Header}
use Rattle.cuboid_cells.specs.declared.summary.Summaries.{Summaries}
use Rattle.cuboid_cells.specs.declared.summary.Summary.{Summary}
use Rattle.cuboid_cells.specs.Cells.{CellFits, KeyFits, SummariesFit, SummaryFits, key_as_number}
use Rattle.cuboid_cells.specs.Limits.{all_code, most_cells}
use Rattle.cuboid_cells.specs.Spelled.{cell_bytes, cell_of, run_header, key_codes, mode_bytes, mode_of, name_of}
use Rattle.cuboid_cells.specs.Spelled.{summaries_of, summary_of}

-- the header of a run that has so many bytes, with a fifth code or none in each cell
pub record IsHeaderWith (grouped : Bool) (bytes : ℕ) (header : Header) : Type 0 where
  pub name : header.name.now ≡ name_of grouped
  pub some : header.from < header.to
  pub few : header.cells ≤ most_cells
  pub whole : bytes ≡ 20 + cell_bytes grouped * header.cells

-- the header of a run of cells of a view that has so many bytes
pub record IsHeaderOf (bytes : ℕ) (header : Header) (found : View) : Type 0 where
  pub view : header.view ≡ index_of found
  pub rest : IsHeaderWith found.ship_mode bytes header

-- each number of a header fits its field
pub record HeaderFits (header : Header) : Type 0 where
  pub name : length header.name.now ≡ 4
  pub view : header.view < 2 ^ 32
  pub from : header.from < 2 ^ 32
  pub to : header.to < 2 ^ 32
  pub cells : header.cells < 2 ^ 32

-- a header was read from the front of `old`, and `new` is left
pub record ReadsRunHeader (old new : List ℕ) (header : Header) : Type 0 where
  pub fits : HeaderFits header
  pub spelled : old ≡ run_header header.name.now header.view header.from header.to header.cells ++ new
  pub left : length old ≡ 20 + length new

-- a fifth code was read from the front of `old`, if there is one, and `new` is left
pub record ReadsMode (grouped : Bool) (old new : List ℕ) (code : ℕ) : Type 0 where
  pub fits : code < 2 ^ 16
  pub absent : grouped ≡ false → code ≡ all_code
  pub spelled : old ≡ mode_of grouped code ++ new
  pub left : length old ≡ mode_bytes grouped + length new

-- a key was read from the front of `old`, and `new` is left
pub record ReadsKey (grouped : Bool) (old new : List ℕ) (key : Key) : Type 0 where
  pub fits : KeyFits key
  pub absent : grouped ≡ false → key.ship_mode ≡ all_code
  pub spelled : old ≡ key_codes grouped key ++ new
  pub left : length old ≡ 8 + mode_bytes grouped + length new

-- the number of the key at the front of bytes
pub record IsNumberIn (grouped : Bool) (bytes : List ℕ) (number : ℕ) : Type 0 where
  pub key : Key
  pub rest : List ℕ
  pub reads : ReadsKey grouped bytes rest key
  pub is : number ≡ key_as_number key

-- what is kept of a measure was read from the front of `old`, and `new` is left
pub record ReadsSummary (old new : List ℕ) (summary : Summary) : Type 0 where
  pub fits : SummaryFits summary
  pub spelled : old ≡ summary_of summary ++ new
  pub left : length old ≡ 24 + length new

-- what is kept of three measures was read from the front of `old`, and `new` is left
pub record ReadsThree (old new : List ℕ) (three : Summary × Summary × Summary) : Type 0 where
  pub first : SummaryFits three.0
  pub second : SummaryFits three.1
  pub third : SummaryFits three.2
  pub spelled : old ≡ (summary_of three.0 ++ (summary_of three.1 ++ summary_of three.2)) ++ new
  pub left : length old ≡ 72 + length new

-- what is kept of the measures was read from the front of `old`, and `new` is left
pub record ReadsSummaries (old new : List ℕ) (measures : Summaries) : Type 0 where
  pub fit : SummariesFit measures
  pub spelled : old ≡ summaries_of measures ++ new
  pub left : length old ≡ 144 + length new

-- a cell fits its fields, and has a fifth code only where it is spelled
pub record IsReadableCell (grouped : Bool) (cell : Cell) : Type 0 where
  pub fits : CellFits cell
  pub absent : grouped ≡ false → cell.key.ship_mode ≡ all_code

-- a cell was read from the front of `old`, and `new` is left
pub record ReadsCell (grouped : Bool) (old new : List ℕ) (cell : Cell) : Type 0 where
  pub readable : IsReadableCell grouped cell
  pub spelled : old ≡ cell_of grouped cell ++ new
  pub left : length old ≡ cell_bytes grouped + length new

-- so many cells were read from the front of `old`, and `new` is left
pub record ReadsCells (grouped : Bool) (count : ℕ) (old new : List ℕ) (cells : List Cell) : Type 0 where
  pub readable : All (IsReadableCell grouped) cells
  pub many : length cells ≡ count
  pub spelled : old ≡ flat_map (cell_of grouped) cells ++ new
  pub left : length old ≡ cell_bytes grouped * count + length new
