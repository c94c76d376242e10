-- A dictionary: texts in the order of their first use, and the code of a text, which is its place there. Our own.
use Rattle.std.specs.Prelude.{◌≡◌, ℕ, ◌<◌, ◌≤◌, false, not, Option, Some, List, [], ◌∷◌, ◌++◌, length, position}
use Rattle.std.specs.Prelude.{MatchOption}
use Rattle.std.specs.List.{filter, list_any}
use Rattle.std.specs.Str.{bytes_eq}

-- the texts of a dictionary, and how many it may have
pub record Texts : Type 0 where
  pub texts : List (List ℕ)
  pub limit : ℕ

-- the code of a text: the place where it was first seen
abbrev pub code_of : List (List ℕ) → List ℕ → Option ℕ
code_of texts text = position (bytes_eq text) texts

-- no text occurs twice
abbrev pub EachOnce : List (List ℕ) → Type 0
EachOnce [] = Unit {0}
EachOnce (text ∷ texts) = (list_any (bytes_eq text) texts ≡ false) × EachOnce texts

-- the texts of a list, each once, in the order of their first use
abbrev pub firsts : List (List ℕ) → List (List ℕ)
firsts [] = []
firsts (text ∷ texts) = text ∷ filter (λ other. not (bytes_eq text other)) (firsts texts)

-- a dictionary with one text more
abbrev pub with_text : Texts → List ℕ → Texts
with_text old text = record { texts = old.texts ++ text ∷ []; limit = old.limit }

-- a text that was seen keeps its code, and a new one gets the next code, or none where the limit is reached
abbrev pub Adds : Texts → List ℕ → Option ℕ → Texts → Type 0
Adds old text code new = MatchOption (code_of old.texts text)
    (MatchOption code ((old.limit ≤ length old.texts) × (new ≡ old))
    (λ c. (c ≡ length old.texts) × (length old.texts < old.limit) × (new ≡ with_text old text)))
    (λ c. (code ≡ Some c) × (new ≡ old))
