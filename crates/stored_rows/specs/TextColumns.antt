-- Columns of texts of a batch that are read one after the other. Our own.
use Rattle.std.specs.Prelude.{◌≡◌, ℕ, ◌*◌, ◌≤◌, List, [], ◌∷◌, ◌++◌, length}
use Rattle.std.specs.List.{flat_map}
use Rattle.batch_admission.specs.ShipModes.{AreCodesAmong, texts_by}
use Rattle.cube_model.specs.Limits.{most_batch_rows}
use Rattle.cube_model.specs.declared.rows.LineOrder.{LineOrder}
use Rattle.column_segment.specs.declared.columns.TextColumn.{TextColumn}
use Rattle.column_segment.specs.declared.columns.TextColumn.TheVariants.{ShipMode}
use Rattle.column_segment.specs.Segment.{IsBatch, text_column}
use Rattle.dictionary.specs.Spelling.{AreProper, AreShort, texts_spelling}

-- texts, and the codes of a column among them, were taken from the front of `old`, and `new` is left
pub record TakesColumn (rows : ℕ) (old new : List ℕ) (texts : List (List ℕ)) (codes : List ℕ) : Type 0 where
  pub proper : AreProper most_batch_rows texts
  pub many : length codes ≡ 2 * rows
  pub spelled : old ≡ texts_spelling texts ++ (codes ++ new)

-- the bytes are some columns of texts of a batch of so many rows
pub record SpellColumns (columns : List TextColumn) (count : ℕ) (bytes : List ℕ) (rows : List LineOrder) : Type 0 where
  pub many : length rows ≡ count
  pub batch : IsBatch rows
  pub spelled : bytes ≡ flat_map (text_column rows) columns

-- they are that of the ship modes alone
abbrev pub SpellLast : ℕ → List ℕ → List LineOrder → Type 0
SpellLast = SpellColumns (ShipMode ∷ [])

-- codes are those of a column of short texts among some, for no more rows than a batch has
pub record IsCoded (texts codes : List (List ℕ)) : Type 0 where
  pub below : AreCodesAmong texts codes
  pub few : length codes ≤ most_batch_rows
  pub short : AreShort (texts_by texts codes)
