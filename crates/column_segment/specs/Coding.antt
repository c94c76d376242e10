-- A column of texts while it is being coded. Our own.
use Rattle.std.specs.Prelude.{◌≡◌, ◌<◌, ◌≤◌, ℕ, List, All, length, map}
use Rattle.std.specs.Int.{from_le_bytes, w16}
use Rattle.cube_model.specs.Limits.{most_batch_rows}
use Rattle.cube_model.specs.declared.rows.LineOrder.{LineOrder}
use Rattle.cube_model.specs.ShipModes.{modes_in}
use Rattle.dictionary.specs.Dictionary.{Texts, firsts}
use Rattle.dictionary.specs.Columns.{codes_of, codes_spelling, text_of_code}

-- a dictionary has the texts of a column, and the bytes are the codes of them
pub record AreCoded (column : List (List ℕ)) (texts : Texts) (codes : List ℕ) : Type 0 where
  pub texts_are : texts.texts ≡ firsts column
  pub limit : texts.limit ≡ most_batch_rows
  pub few : length texts.texts ≤ most_batch_rows
  pub codes_are : codes ≡ codes_spelling (codes_of column)

-- the code of each text of a column among those of a dictionary, in two bytes, the lowest first
pub record AreCodesOf (column dictionary codes : List (List ℕ)) : Type 0 where
  pub texts : map (text_of_code dictionary) (map (from_le_bytes w16) codes) ≡ column
  pub below : All (λ code. code < length dictionary) (map (from_le_bytes w16) codes)

-- the code of each row's ship mode
abbrev pub AreModesOf : List LineOrder → List (List ℕ) → List (List ℕ) → Type 0
AreModesOf rows modes codes = AreCodesOf (modes_in rows) modes codes
