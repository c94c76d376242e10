-- A column of texts as codes: its texts, each once in the order of first use, and the code of each. Our layout.
use Rattle.std.specs.Prelude.{◌≡◌, ℕ, ◌==◌, not, List, [], ◌∷◌, ◌++◌, map, slice_index_or}
use Rattle.std.specs.List.{filter, flat_map, position_or_len, range_with_len}
use Rattle.std.specs.Str.{bytes_eq}
use Rattle.wire.specs.Spelling.{spelling}
use Rattle.dictionary.specs.Dictionary.{firsts}
use Rattle.dictionary.specs.Spelling.{texts_spelling}

-- the codes of a list, each once, in the order of their first use
abbrev pub first_codes : List ℕ → List ℕ
first_codes [] = []
first_codes (code ∷ codes) = code ∷ filter (λ other. not (other == code)) (first_codes codes)

-- the codes of so many texts: in the order of first use they are 0, 1 and so on, and none is left out
abbrev pub AreCodes : ℕ → List ℕ → Type 0
AreCodes count codes = first_codes codes ≡ range_with_len 0 count

-- the code of a text that is one of the texts
abbrev pub place_of : List (List ℕ) → List ℕ → ℕ
place_of texts text = position_or_len (bytes_eq text) texts

-- the text of a code
abbrev pub text_of_code : List (List ℕ) → ℕ → List ℕ
text_of_code texts code = slice_index_or texts code []

-- the code of each text of a column
abbrev pub codes_of : List (List ℕ) → List ℕ
codes_of column = map (place_of (firsts column)) column

-- codes in two bytes each
abbrev pub codes_spelling : List ℕ → List ℕ
codes_spelling codes = flat_map (spelling 2) codes

-- a column of texts: its dictionary, then the code of each text
abbrev pub column_spelling : List (List ℕ) → List ℕ
column_spelling column = texts_spelling (firsts column) ++ codes_spelling (codes_of column)
