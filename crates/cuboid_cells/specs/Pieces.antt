-- A run that is read piece by piece. Our own.
use Rattle.std.specs.Prelude.{◌≡◌, ℕ, ◌+◌, ◌*◌, ◌<◌, ◌≤◌, List, [], ◌∷◌, ◌++◌, Option, length, take, drop, All}
use Rattle.std.specs.Option.{IsSomeAnd}
use Rattle.wire.specs.Parts.{Gives}
use Rattle.lattice.specs.declared.view.View.{View}
use Rattle.lattice.specs.Views.{index_of}
use Rattle.cuboid_cells.specs.declared.cell.Cell.{Cell}
use Rattle.cuboid_cells.specs.declared.head.RunHead.{RunHead}
use Rattle.cuboid_cells.specs.declared.span.Span.{Span}
use Rattle.cuboid_cells.specs.Cells.{IsCellOf, PlainCells, key_as_number}
use Rattle.cuboid_cells.specs.Limits.{most_cells}
use Rattle.cuboid_cells.specs.Spelled.{IsRun, IsSpan, cell_bytes, run_header, name_of}
use Rattle.cuboid_cells.specs.Steps.{cells_of}

-- the bytes that can be read ahead
abbrev pub most_ahead : ℕ
most_ahead = 65536

-- each key is above those before it, and none is below `low`
abbrev pub Climbs : ℕ → List Cell → Type 0
Climbs low [] = Unit {0}
Climbs low (cell ∷ cells) = (low ≤ key_as_number cell.key) × Climbs (key_as_number cell.key + 1) cells

-- the least key after cells that climb from `low`
abbrev pub least_after : ℕ → List Cell → ℕ
least_after low [] = low
least_after low (cell ∷ cells) = least_after (key_as_number cell.key + 1) cells

-- cells of a view whose keys climb from a number on
abbrev pub AreCellsFrom : View → ℕ → List Cell → Type 0
AreCellsFrom view low cells = All (IsCellOf view) cells × Climbs low cells

-- the bytes before the cells
abbrev pub bytes_of_head : RunHead → List ℕ
bytes_of_head head = run_header (name_of head.view.ship_mode) (index_of head.view) head.span.from head.span.to
    head.count

-- a run, up to where it is read: the text that it has, its header, how many cells were read or passed over, the least
-- key that can follow them, and the bytes after them that were read ahead
pub record RunPlace : Type 0 where
  pub id : ℕ
  pub head : RunHead
  pub done : ℕ
  pub least : ℕ
  pub ahead : List ℕ

-- the bytes of the run
abbrev pub size_of_run : RunPlace → ℕ
size_of_run run = 20 + cell_bytes run.head.view.ship_mode * run.head.count

-- the header is one that a run can have, and a text has as many bytes as it says
pub record IsHeadFor (total : ℕ) (head : RunHead) : Type 0 where
  pub span : IsSpan head.span
  pub few : head.count ≤ most_cells
  pub whole : total ≡ 20 + cell_bytes head.view.ship_mode * head.count

-- a text is the run of cells, with a header
abbrev pub IsRunOf : Option (List ℕ) → RunHead → List Cell → Type 0
IsRunOf text head cells = IsSomeAnd text (λ bytes. IsRun bytes head.span (cells_of head.view cells))

-- a text is a run, of which these cells are left from the place on: no key of theirs has a number below the least, and
-- what was read ahead are bytes from the place on
pub record AreLeft (text : Option (List ℕ)) (run : RunPlace) (cells : List Cell) : Type 0 where
  pub before : List Cell
  pub is : IsRunOf text run.head (before ++ cells)
  pub many : length before + length cells ≡ run.head.count
  pub done : length before ≡ run.done
  pub climb : Climbs run.least cells
  pub ahead : Gives text (20 + cell_bytes run.head.view.ship_mode * run.done) run.ahead

-- where a text is a run, its header was read, and all its cells are left
abbrev pub IsAtFirst : Option (List ℕ) → RunPlace → Type 0
IsAtFirst text run = (span : Span) (plain : PlainCells) → IsSomeAnd text (λ bytes. IsRun bytes span plain)
    → (run.head ≡ record { view = plain.view; span = span; count = length plain.cells }) × AreLeft text run plain.cells

-- of the cells that were left the first were read
pub record ReadsOn (text : Option (List ℕ)) (left : List Cell) (next : RunPlace) (cells : List Cell) : Type 0 where
  pub rest : List Cell
  pub parts : left ≡ cells ++ rest
  pub now : AreLeft text next rest

-- of the cells that were left those whose keys have numbers below one were passed over
pub record PassesOver (text : Option (List ℕ)) (left : List Cell) (least : ℕ) (next : RunPlace) : Type 0 where
  pub passed : List Cell
  pub rest : List Cell
  pub parts : left ≡ passed ++ rest
  pub below : All (λ cell. key_as_number cell.key < least) passed
  pub above : All (λ cell. least ≤ key_as_number cell.key) rest
  pub now : AreLeft text next rest

-- the cells before a place have keys with numbers below one, and those from another place on have not
pub record AreParted (least from to : ℕ) (cells : List Cell) : Type 0 where
  pub below : All (λ cell. key_as_number cell.key < least) (take from cells)
  pub above : All (λ cell. least ≤ key_as_number cell.key) (drop to cells)
