-- Rows that were written as lines are read back. Proved as the contract of a function.
use Rattle.std.specs.Prelude.{◌≡◌, ℕ, List, [], Some, Ok}
use Rattle.batch_loader.specs.Lines.{lines_of}
use Rattle.batch_loader.specs.Rows.{rows_of}
use Rattle.batch_loader.specs.Tables.{lineorder_row}
use Rattle.cube_model.specs.declared.rows.LineOrder.{LineOrder}
use Rattle.warehouse_jobs.specs.Dumped.{RowsAreWritten}

-- the lines of a text that has only rows that were written give the rows again, whatever number the first line has
abbrev pub DumpsReadBack : Type 0
DumpsReadBack = (rows : List LineOrder) (text : List ℕ) (number : ℕ) → RowsAreWritten rows (Some []) (Some text)
    → rows_of lineorder_row number (lines_of text) ≡ Ok rows
