-- A column by codes: its texts in the order of their first use, and the code of the text at each place of the column
-- below. The places are the rows, or the codes of a lower column whose texts determine those of this one.
use Rattle.std.specs.Prelude.{◌≡◌, ℕ, ◌<◌, ◌≤◌, Bool, false, Option, Some, None, List, [], length, slice_index_or}
use Rattle.std.specs.Prelude.{if◌then◌else◌}
use Rattle.std.specs.List.{list_any, position_or_len}
use Rattle.std.specs.Str.{bytes_eq}
use Rattle.cube_model.specs.Limits.{most_members}
use Rattle.dictionary.specs.Dictionary.{Texts, firsts, with_text}
use Rattle.hierarchy.specs.Hierarchy.{PutsUpper}
use Rattle.dimensions.specs.declared.coded.CodedColumn.{CodedColumn}
use Rattle.dimensions.specs.declared.column.Column.{Column}

-- the code of the text at a row: its place in the order of first use
abbrev pub code_at : List (List ℕ) → ℕ → ℕ
code_at texts row = position_or_len (bytes_eq (slice_index_or texts row [])) (firsts texts)

-- where the code of a row is: at the row, or at the row's code in the lower column
abbrev pub code_place : Option (List (List ℕ)) → ℕ → ℕ
code_place None row = row
code_place (Some lower) row = code_at lower row

-- how many places there are
abbrev pub place_count : Option (List (List ℕ)) → ℕ → ℕ
place_count None rows = rows
place_count (Some lower) rows = length (firsts lower)

-- a column is that of some texts, above the texts of a lower one or above the rows
pub record IsColumn (texts : List (List ℕ)) (lower : Option (List (List ℕ))) (column : Column) : Type 0 where
  pub limit : column.texts.limit ≡ most_members
  pub texts_are : column.texts.texts ≡ firsts texts
  pub room : length (firsts texts) ≤ most_members
  pub count : length column.codes ≡ place_count lower (length texts)
  pub reads : (row : ℕ) → row < length texts → slice_index_or column.codes (code_place lower row) 0 ≡ code_at texts row

-- a code is the one that a text has among texts, or would get
abbrev pub HasCode : Texts → List ℕ → ℕ → Type 0
HasCode texts text code = (code ≡ position_or_len (bytes_eq text) texts.texts) × (code < most_members)

-- a text is new, and there is no room for it
abbrev pub HasNoCodeLeft : Texts → List ℕ → Type 0
HasNoCodeLeft texts text = (list_any (bytes_eq text) texts.texts ≡ false) × (most_members ≤ length texts.texts)

-- the texts with one that may be new
abbrev pub learned : Texts → List ℕ → Texts
learned texts text = if list_any (bytes_eq text) texts.texts then texts else with_text texts text

-- a text is put at a place, unless another one is there
pub record Enters (old : Column) (place : ℕ) (text : List ℕ) (code : ℕ) (fits : Bool) (new : Column) : Type 0 where
  pub lower : new.lower ≡ old.lower
  pub texts : new.texts ≡ learned old.texts text
  pub codes : PutsUpper old.codes place code fits new.codes

-- a column by codes, with the ranks of its texts
abbrev pub column_of_coded : Option ℕ → CodedColumn → Column
column_of_coded lower coded =
    record { lower = lower; texts = coded.texts; codes = coded.codes; ranks = coded.texts.texts }

-- the same column with the ranks of its texts, and with none
abbrev pub ranked : Column → Column
ranked column = record column { ranks = column.texts.texts }

abbrev pub unranked : Column → Column
unranked column = record column { ranks = [] }
