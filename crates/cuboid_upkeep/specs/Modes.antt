-- The codes that texts have among the ship modes. Our own.
use Rattle.std.specs.Prelude.{◌≡◌, ℕ, ◌<◌, cond, nat_lt, true, Option, Some, None, List, length, slice_index}
use Rattle.dictionary.specs.Columns.{text_of_code}
use Rattle.dictionary.specs.Dictionary.{code_of}
use Rattle.lattice.specs.declared.view.View.{View}
use Rattle.cuboid_cells.specs.Limits.{all_code}

-- a code below that of ALL, and that of ALL for every other and for none
abbrev pub code_or_all : Option ℕ → ℕ
code_or_all None = all_code
code_or_all (Some code) = cond (nat_lt code all_code) code all_code

-- the code of a text that is one of the modes, and that of ALL for every other text
abbrev pub code_among : List (List ℕ) → List ℕ → ℕ
code_among modes text = code_or_all (code_of modes text)

-- those of texts
pub record AreModeCodes (modes texts : List (List ℕ)) (codes : List ℕ) : Type 0 where
  pub many : length codes ≡ length texts
  pub each : (place : ℕ) → place < length texts → slice_index codes place ≡ code_among modes (text_of_code texts place)

-- those of the texts of fact rows, where a view groups by ship mode
abbrev pub AreOwnCodes : List (List ℕ) → View → List (List ℕ) → List ℕ → Type 0
AreOwnCodes modes view texts codes = view.ship_mode ≡ true → AreModeCodes modes texts codes
