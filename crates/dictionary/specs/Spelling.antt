-- How the texts of a dictionary are stored. Our layout.
use Rattle.std.specs.Prelude.{◌≡◌, ◌≢◌, ℕ, ◌≤◌, List, ◌++◌, length, All}
use Rattle.std.specs.List.{flat_map}
use Rattle.cube_model.specs.Limits.{longest_text}
use Rattle.wire.specs.Spelling.{spelling}
use Rattle.dictionary.specs.Dictionary.{EachOnce}

-- a text: how many bytes it has, in one byte, then its bytes
abbrev pub text_spelling : List ℕ → List ℕ
text_spelling text = spelling 1 (length text) ++ text

-- texts: how many there are, in four bytes, then each
abbrev pub texts_spelling : List (List ℕ) → List ℕ
texts_spelling texts = spelling 4 (length texts) ++ flat_map text_spelling texts

-- the length of each text fits one byte
abbrev pub AreShort : List (List ℕ) → Type 0
AreShort texts = All (λ text. length text ≤ longest_text) texts

-- what the texts of a dictionary on disk keep: none occurs twice, none is too long, and there are at most so many
pub record AreProper (limit : ℕ) (texts : List (List ℕ)) : Type 0 where
  pub each_once : EachOnce texts
  pub short : AreShort texts
  pub most : length texts ≤ limit

-- proper texts were read from the front of `old`, and `new` is left
pub record ReadsTexts (limit : ℕ) (old new : List ℕ) (texts : List (List ℕ)) : Type 0 where
  pub proper : AreProper limit texts
  pub spelled : old ≡ texts_spelling texts ++ new

-- bytes that begin with no proper texts
abbrev pub BeginsWithNone : ℕ → List ℕ → Type 0
BeginsWithNone limit bytes = (texts : List (List ℕ)) (rest : List ℕ) → AreProper limit texts
    → bytes ≢ texts_spelling texts ++ rest
