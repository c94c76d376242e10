-- The batches that a text is cut into. Our own.
use Rattle.std.specs.Prelude.{◌≡◌, ⊤, ℕ, List, [], ◌∷◌, length, Option, None, Some, Ok, Err}
use Rattle.batch_loader.specs.Lines.{lines_of}
use Rattle.batch_loader.specs.Parts.{parts_of}
use Rattle.batch_loader.specs.Rows.{rows_of, number_after}
use Rattle.batch_loader.specs.Tables.{lineorder_row}
use Rattle.cube_model.specs.declared.fault.Fault.{Fault}
use Rattle.cube_model.specs.declared.rows.LineOrder.{LineOrder}

-- Some batches are the rows of the first parts of a text, of which the first line has a number. The next line and the
-- other parts are left
abbrev pub AreCut : ℕ → List (List (List ℕ)) → List (List LineOrder) → ℕ → List (List (List ℕ)) → Type 0
AreCut number parts [] next left = (next ≡ number) × (left ≡ parts)
AreCut number [] (rows ∷ batches) next left = ⊥
AreCut number (lines ∷ parts) (rows ∷ batches) next left =
    (rows_of lineorder_row number lines ≡ Ok rows) × AreCut (number_after (length rows) number) parts batches next left

-- Batches that are read from a text from its first line on, so many lines a batch. Of a text that is not known nothing
-- is said
abbrev pub AreCutFrom : Option (List ℕ) → ℕ → List (List LineOrder) → ℕ → List (List (List ℕ)) → Type 0
AreCutFrom None size batches next left = ⊤
AreCutFrom (Some text) size batches next left = AreCut 1 (parts_of size (lines_of text)) batches next left

-- these are the rows of the first part that is left
pub record IsNextBatch (next : ℕ) (left : List (List (List ℕ))) (rows : List LineOrder) : Type 0 where
  pub lines : List (List ℕ)
  pub others : List (List (List ℕ))
  pub part : left ≡ lines ∷ others
  pub read : rows_of lineorder_row next lines ≡ Ok rows

-- this is the first fault of its lines
pub record IsFirstLineFault (next : ℕ) (left : List (List (List ℕ))) (fault : Fault) : Type 0 where
  pub lines : List (List ℕ)
  pub others : List (List (List ℕ))
  pub part : left ≡ lines ∷ others
  pub refused : rows_of lineorder_row next lines ≡ Err fault
