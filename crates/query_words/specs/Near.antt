-- How near a name is to a word, by Levenshtein's distance over characters. Which distance still is a typo is our own.
use Rattle.std.specs.Prelude.{ℕ, ◌≤◌, ◌<◌, ◌+◌, ◌/◌, List, length, nat_eq, Contains, All}
use Rattle.std.specs.Str.{chars}
use Rattle.strsim.specs.Edits.{levenshtein_row}

-- the fewest edits, each of one character, that make a name of a word
abbrev pub edits : List ℕ → List ℕ → ℕ
edits word name = levenshtein_row nat_eq (chars word) (chars name) (length (chars name))

-- the most edits that are taken for a typo: one, and one for each three bytes of the word
abbrev pub most_edits : List ℕ → ℕ
most_edits word = length word / 3 + 1

-- one of some names that is near to a word, and none of them is nearer
pub record IsNearest (word : List ℕ) (names : List (List ℕ)) (name : List ℕ) : Type 0 where
  pub is_one : Contains names name
  pub near : edits word name ≤ most_edits word
  pub least : All (λ other. edits word name ≤ edits word other) names

-- none of some names is near to a word
abbrev pub AreFar : List ℕ → List (List ℕ) → Type 0
AreFar word names = All (λ name. most_edits word < edits word name) names
