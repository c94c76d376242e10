-- The rows of a dimension by codes. A column has places: one for each row or, where the texts of a lower column
-- determine its own, one for each text of the lower column. It has its texts, each once in the order of their first use
-- by the places, and the code of the text at each place. Our layout.
use Rattle.std.specs.Prelude.{◌≡◌, ◌≢◌, ℕ, ◌<◌, ◌≤◌, Option, Some, None, List, [], map, length, slice_index_or, codes}
use Rattle.std.specs.List.{AllByRecursion, position_or_len}
use Rattle.std.specs.Str.{bytes_eq}
use Rattle.cube_model.specs.declared.attr.Axis.{Axis}
use Rattle.cube_model.specs.Lawful.{EachPair, KeepsRules}
use Rattle.cube_model.specs.Limits.{most_members}
use Rattle.dictionary.specs.Dictionary.{firsts}
use Rattle.dictionary.specs.Spelling.{AreProper}
use Rattle.dictionary.specs.Columns.{AreCodes, codes_of}
use Rattle.dimensions.specs.declared.coded.CodedColumn.{CodedColumn}
use Rattle.dimensions.specs.declared.coded.CodedRows.{CodedRows}
use Rattle.dimensions.specs.TextRows.{TextRow, column_of}
use Rattle.dimensions.specs.Shapes.{lowers_of, lower_of, row_limit_of, text_rules}
use Rattle.dimensions.specs.ShortTexts.{AreShortRows}

-- the text of a column in the first row that has a text in the lower column
abbrev pub text_next_to : List (List ℕ) → List (List ℕ) → List ℕ → List ℕ
text_next_to lowers texts lower = slice_index_or texts (position_or_len (bytes_eq lower) lowers) []

-- the text at each place of a column: in each row, or next to each text of the lower column
abbrev pub place_texts : Option (List (List ℕ)) → List (List ℕ) → List (List ℕ)
place_texts None texts = texts
place_texts (Some lowers) texts = map (text_next_to lowers texts) (firsts lowers)

-- the texts of the lower column, if there is one
abbrev pub texts_below : Option ℕ → List TextRow → Option (List (List ℕ))
texts_below None rows = None
texts_below (Some lower) rows = Some (column_of lower rows)

-- the text at each place of a column of some rows
abbrev pub texts_at_places : Axis → ℕ → List TextRow → List (List ℕ)
texts_at_places axis column rows = place_texts (texts_below (lower_of axis column) rows) (column_of column rows)

-- a column by codes is that of the texts at its places
pub record IsCodedColumn (texts : List (List ℕ)) (column : CodedColumn) : Type 0 where
  pub texts_are : column.texts.texts ≡ firsts texts
  pub codes_are : column.codes ≡ codes_of texts

-- the column with a number (an empty one after the last)
abbrev pub no_coded : CodedColumn
no_coded = record { texts = record { texts = []; limit = most_members }; codes = [] }

abbrev pub coded_at : CodedRows → ℕ → CodedColumn
coded_at coded column = slice_index_or coded.columns column no_coded

-- rows by codes are those of some rows
pub record AreCodedRows (axis : Axis) (rows : List TextRow) (coded : CodedRows) : Type 0 where
  pub keys_are : coded.keys ≡ map (λ row. row.key) rows
  pub count : length coded.columns ≡ length (lowers_of axis)
  pub columns : (i : ℕ) → i < length (lowers_of axis) → IsCodedColumn (texts_at_places axis i rows) (coded_at coded i)

-- rows keep the rules of their dimension, and have short texts
pub record AreGoodRows (axis : Axis) (rows : List TextRow) : Type 0 where
  pub keep : KeepsRules (text_rules axis) rows
  pub short : AreShortRows rows

-- each column has distinct short texts, and room for just as many as there may be members
pub record ColumnsHaveTexts (columns : List CodedColumn) : Type 0 where
  pub limits : AllByRecursion (λ column. column.texts.limit ≡ most_members) columns
  pub proper : AllByRecursion (λ column. AreProper most_members column.texts.texts) columns

-- how many places a column has
abbrev pub place_total : CodedRows → Option ℕ → ℕ
place_total coded None = length coded.keys
place_total coded (Some lower) = length (coded_at coded lower).texts.texts

-- a column by codes keeps its rules: no text is the one that means all members, each place has a code, and in the
-- order of first use the codes are all of them
pub record IsProperColumn (places : ℕ) (column : CodedColumn) : Type 0 where
  pub members : AllByRecursion (λ text. text ≢ codes "ALL") column.texts.texts
  pub places_are : length column.codes ≡ places
  pub order : AreCodes (length column.texts.texts) column.codes

-- the columns by codes of a dimension keep their rules, and there are not too many rows
pub record HaveProperColumns (axis : Axis) (coded : CodedRows) : Type 0 where
  pub few_rows : length coded.keys ≤ row_limit_of axis
  pub count : length coded.columns ≡ length (lowers_of axis)
  pub columns : (i : ℕ) → i < length (lowers_of axis)
      → IsProperColumn (place_total coded (lower_of axis i)) (coded_at coded i)

-- no key occurs twice
abbrev pub KeysAreDistinct : List ℕ → Type 0
KeysAreDistinct keys = EachPair (λ key other. key ≢ other) keys
