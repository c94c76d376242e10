-- What is read of texts from the front of bytes. Our own.
use Rattle.std.specs.Prelude.{◌≡◌, ℕ, ◌<◌, ◌≤◌, false, List, ◌++◌, length}
use Rattle.std.specs.List.{flat_map, list_any}
use Rattle.std.specs.Str.{bytes_eq}
use Rattle.cube_model.specs.Limits.{longest_text}
use Rattle.dictionary.specs.Dictionary.{Texts, EachOnce, with_text}
use Rattle.dictionary.specs.Spelling.{AreProper, AreShort, text_spelling}

-- a text was read from the front of `old`, and `new` is left
pub record ReadsShort (old new text : List ℕ) : Type 0 where
  pub short : length text ≤ longest_text
  pub spelled : old ≡ text_spelling text ++ new

-- the bytes begin with a text
abbrev pub BeginsWithShort : List ℕ → Type 0
BeginsWithShort bytes = (text : List ℕ) × (rest : List ℕ) × ReadsShort bytes rest text

-- a text that a dictionary does not have was read, and added to it
pub record ReadsNew (old new : List ℕ) (before after : Texts) : Type 0 where
  pub text : List ℕ
  pub read : ReadsShort old new text
  pub fresh : list_any (bytes_eq text) before.texts ≡ false
  pub added : after ≡ with_text before text

-- the bytes begin with a text that a dictionary does not have, and has room for
pub record BeginsWithNew (bytes : List ℕ) (before : Texts) : Type 0 where
  pub text : List ℕ
  pub rest : List ℕ
  pub read : ReadsShort bytes rest text
  pub fresh : list_any (bytes_eq text) before.texts ≡ false
  pub room : length before.texts < before.limit

-- so many texts, all different, were read into a dictionary
pub record ReadsEach (count : ℕ) (old new : List ℕ) (before after : Texts) : Type 0 where
  pub limit : after.limit ≡ before.limit
  pub many : length after.texts ≡ count
  pub each_once : EachOnce after.texts
  pub short : AreShort after.texts
  pub spelled : old ≡ flat_map text_spelling after.texts ++ new

-- the bytes begin with so many texts that a dictionary may have
pub record BeginsWithSome (count limit : ℕ) (bytes : List ℕ) : Type 0 where
  pub texts : List (List ℕ)
  pub rest : List ℕ
  pub proper : AreProper limit texts
  pub many : length texts ≡ count
  pub spelled : bytes ≡ flat_map text_spelling texts ++ rest
