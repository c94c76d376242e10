-- The fields of a line, which are between bars.
use Rattle.std.specs.Prelude.{◌<◌, ◌≤◌, drop, ℕ, suc, zero, ◌+◌, ◌-◌, ◌==◌, ◌&&◌, nat_lt, Option, Some, None, List, []}
use Rattle.std.specs.Prelude.{◌∷◌, cond, take, length, slice_index, slice_range}
use Rattle.std.specs.List.{slice_split, position_or_len}
use Rattle.std.specs.Option.{option_map}

-- a line without its CR (13), if it ends with one
abbrev pub without_cr : List ℕ → List ℕ
without_cr line =
    cond (nat_lt 0 (length line) && (slice_index line (length line - 1) == 13)) (take (length line - 1) line) line

-- the parts of a text between its bars (124)
abbrev pub between_bars : List ℕ → List (List ℕ)
between_bars text = slice_split (λ byte. byte == 124) text

-- n parts, or n and an empty one
abbrev pub first_parts : ℕ → List (List ℕ) → Option (List (List ℕ))
first_parts zero [] = Some []
first_parts zero ([] ∷ []) = Some []
first_parts zero (part ∷ parts) = None
first_parts (suc n) [] = None
first_parts (suc n) (part ∷ parts) = option_map (λ others. part ∷ others) (first_parts n parts)

-- the n fields that a line spells, if it spells n fields
abbrev pub fields_of : ℕ → List ℕ → Option (List (List ℕ))
fields_of n line = first_parts n (between_bars (without_cr line))

-- the parts of a line that end at some places, the first from a place on, and each next one after the bar that ends the
-- one before
abbrev pub parts_at : List ℕ → ℕ → List ℕ → List (List ℕ)
parts_at line from [] = []
parts_at line from (end ∷ ends) = slice_range line from end ∷ parts_at line (end + 1) ends

-- the place of the first bar from a place on, or the end of the text
abbrev pub bar_from : List ℕ → ℕ → ℕ
bar_from text from = from + position_or_len (λ byte. byte == 124) (drop from text)

-- where the part at a place begins: at the front, or after the bar that ends the part before
abbrev pub start_of : List ℕ → ℕ → ℕ
start_of ends zero = 0
start_of ends (suc place) = slice_index ends place + 1

-- each part ends within the line, and not before it begins
abbrev pub AreEnds : List ℕ → List ℕ → Type 0
AreEnds line ends = (k : ℕ) → k < length ends → (start_of ends k ≤ slice_index ends k)
    × (slice_index ends k ≤ length line)
