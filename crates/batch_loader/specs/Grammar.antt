-- The grammar of texts and lines, without a word of how they are split.
use Rattle.std.specs.Prelude.{◌≡◌, ◌==◌, ◌<◌, ◌⊎◌, ℕ, false, List, [], ◌∷◌, ◌++◌, Some, length}
use Rattle.std.specs.List.{AllByRecursion, join_with_byte}
use Rattle.batch_loader.specs.Fields.{without_cr, fields_of}
use Rattle.batch_loader.specs.Lines.{lines_of}

-- a text has no bar (124)
abbrev pub HasNoBar : List ℕ → Type 0
HasNoBar text = AllByRecursion (λ byte. (byte == 124) ≡ false) text

-- a line spells n fields, none of which has a bar: less its CR it is the fields joined by bars, with or without one
-- more bar
pub record SpellsFields (n : ℕ) (line : List ℕ) (fields : List (List ℕ)) : Type 0 where
  pub count : length fields ≡ n
  pub no_bar : AllByRecursion HasNoBar fields
  pub joined : (without_cr line ≡ join_with_byte 124 fields) ⊎ (without_cr line ≡ join_with_byte 124 fields ++ 124 ∷ [])

-- the fields of a line are the fields that it spells
abbrev pub FieldsAreSpelled : Type 0
FieldsAreSpelled = (n : ℕ) (line : List ℕ) (fields : List (List ℕ)) → 0 < n
    → (fields_of n line ≡ Some fields → SpellsFields n line fields)
    × (SpellsFields n line fields → fields_of n line ≡ Some fields)

-- a line has no LF (10)
abbrev pub HasNoLf : List ℕ → Type 0
HasNoLf line = AllByRecursion (λ byte. (byte == 10) ≡ false) line

-- lines, each followed by LF
abbrev pub ended : List (List ℕ) → List ℕ
ended [] = []
ended (line ∷ lines) = line ++ 10 ∷ ended lines

-- each line but the last is followed by LF, and the last one is not empty
pub record EndsWithoutLf (text : List ℕ) (lines : List (List ℕ)) : Type 0 where
  pub front : List (List ℕ)
  pub last : List ℕ
  pub lines_are : lines ≡ front ++ last ∷ []
  pub text_is : text ≡ ended front ++ last
  pub some : 0 < length last

-- a text spells lines, none of which has an LF: each is followed by LF, save that a last line that is not empty may go
-- without
pub record SpellsLines (text : List ℕ) (lines : List (List ℕ)) : Type 0 where
  pub no_lf : AllByRecursion HasNoLf lines
  pub spelled : (text ≡ ended lines) ⊎ EndsWithoutLf text lines

-- the lines of a text are the lines that it spells
abbrev pub LinesAreSpelled : Type 0
LinesAreSpelled = (text : List ℕ) (lines : List (List ℕ)) → (lines_of text ≡ lines → SpellsLines text lines)
    × (SpellsLines text lines → lines_of text ≡ lines)
