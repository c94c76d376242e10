-- What is checked of the columns of a batch. Our layout.
use Rattle.std.specs.Prelude.{ℕ, nat_lt, Bool, List, map}
use Rattle.std.specs.List.{list_all}
use Rattle.std.specs.Int.{from_le_bytes, w16}

-- each of some numbers is below a limit
abbrev pub all_below : ℕ → List ℕ → Bool
all_below limit numbers = list_all (λ number. nat_lt number limit) numbers

-- the codes of a column of two bytes each, the lowest byte first
abbrev pub two_byte_codes : List (List ℕ) → List ℕ
two_byte_codes column = map (from_le_bytes w16) column
