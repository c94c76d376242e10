-- The numbers of columns that are stored as bytes, and what is made of two columns row by row. Our layout.
use Rattle.std.specs.Prelude.{ℕ, ℤ, pos, ◌*◌, ◌/◌, ◌%◌, ◌-ℤ◌, List, map}
use Rattle.std.specs.Int.{from_le_bytes, w64}
use Rattle.std.specs.Simd.Lanes.{zip2}

-- the numbers of a column of eight bytes each, the lowest byte first
abbrev pub numbers_of : List (List ℕ) → List ℕ
numbers_of column = map (from_le_bytes w64) column

-- row by row, a number times another: an extended price times its discount
abbrev pub products : List ℕ → List ℕ → List ℕ
products numbers factors = zip2 (λ number factor. number * factor) numbers factors

-- row by row, a number less another: a revenue less its supply cost
abbrev pub differences : List ℕ → List ℕ → List ℤ
differences numbers others = zip2 (λ number other. pos number -ℤ pos other) numbers others

-- the low and the high 32 bits of a number of 64
abbrev pub low : ℕ → ℕ
low number = number % 4294967296

abbrev pub high : ℕ → ℕ
high number = number / 4294967296
