-- The ship modes of a batch by their codes, and the rows for which they are refused. Our own.
use Rattle.std.specs.Prelude.{ℕ, ◌+◌, ◌<◌, Option, List, length, map, All}
use Rattle.std.specs.Int.{from_le_bytes, w16}
use Rattle.std.specs.Option.{option_map}
use Rattle.dictionary.specs.Columns.{text_of_code}

-- the texts of codes among texts. A code has two bytes, the lowest first
abbrev pub texts_by : List (List ℕ) → List (List ℕ) → List (List ℕ)
texts_by texts codes = map (text_of_code texts) (map (from_le_bytes w16) codes)

-- each code is that of a text
abbrev pub AreCodesAmong : List (List ℕ) → List (List ℕ) → Type 0
AreCodesAmong texts codes = All (λ code. code < length texts) (map (from_le_bytes w16) codes)

-- the row at a place. Rows count from 1
abbrev pub row_number_at : Option ℕ → Option ℕ
row_number_at place = option_map (λ k. k + 1) place
