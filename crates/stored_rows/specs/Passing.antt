-- Columns of texts that are passed over: their dictionaries are read, of which no text is kept. Our own.
use Rattle.std.specs.Prelude.{◌≡◌, ℕ, ◌≤◌, List, ◌++◌, length}
use Rattle.std.specs.List.{flat_map}
use Rattle.cube_model.specs.declared.rows.LineOrder.{LineOrder}
use Rattle.dictionary.specs.Columns.{column_spelling}
use Rattle.dictionary.specs.Spelling.{AreShort, text_spelling, texts_spelling}
use Rattle.column_segment.specs.Columns.{text_columns}
use Rattle.stored_rows.specs.TextColumns.{SpellColumns, SpellLast}

-- bytes of a dictionary that are read at a time: a sector
abbrev pub window_bytes : ℕ
window_bytes = 512

-- the bytes begin with so many short texts, and `rest` is after them
pub record BeginsWithTexts (count : ℕ) (bytes rest : List ℕ) : Type 0 where
  pub texts : List (List ℕ)
  pub short : AreShort texts
  pub many : length texts ≡ count
  pub spelled : bytes ≡ flat_map text_spelling texts ++ rest

-- the bytes begin with a dictionary of short texts, no more than so many, and `rest` is after it
pub record BeginsWithDictionary (most : ℕ) (bytes rest : List ℕ) : Type 0 where
  pub texts : List (List ℕ)
  pub short : AreShort texts
  pub few : length texts ≤ most
  pub spelled : bytes ≡ texts_spelling texts ++ rest

-- a column of so many short texts with which `old` begins is passed over, and `new` is left
abbrev pub PassesColumn : ℕ → List ℕ → List ℕ → Type 0
PassesColumn rows old new = (column : List (List ℕ)) (rest : List ℕ) → length column ≡ rows → AreShort column
    → old ≡ column_spelling column ++ rest → new ≡ rest

-- where `bytes` are the columns of texts of a batch, `last` is that of the ship modes
abbrev pub LeadsToLast : ℕ → List ℕ → List ℕ → Type 0
LeadsToLast count bytes last = (rows : List LineOrder) → SpellColumns text_columns count bytes rows
    → SpellLast count last rows
