-- What a read takes from the front of the bytes that are left. Our own.
use Rattle.std.specs.Prelude.{◌≡◌, ℕ, ℤ, ◌+◌, ◌^◌, ◌<◌, List, ◌++◌, length, FitsSigned}
use Rattle.std.specs.Int.{w64}
use Rattle.wire.specs.Spelling.{spelling, signed_spelling}

-- the spelling of x in n bytes was read from the front of `old`, and `new` is left
pub record ReadsNumber (n : ℕ) (old new : List ℕ) (x : ℕ) : Type 0 where
  pub fits : x < 256 ^ n
  pub spelled : old ≡ spelling n x ++ new
  pub left : length old ≡ n + length new
  -- what a write spelled is what is read
  pub reads_back : (y : ℕ) (rest : List ℕ) → y < 256 ^ n → old ≡ spelling n y ++ rest → (x ≡ y) × (new ≡ rest)

-- the spelling of the signed number z was read from the front of `old`, and `new` is left
pub record ReadsSigned (old new : List ℕ) (z : ℤ) : Type 0 where
  pub fits : FitsSigned w64 z
  pub spelled : old ≡ signed_spelling z ++ new
  pub left : length old ≡ 8 + length new
  -- what a write spelled is what is read
  pub reads_back : (y : ℤ) (rest : List ℕ) → FitsSigned w64 y → old ≡ signed_spelling y ++ rest → (z ≡ y) × (new ≡ rest)

-- the first n bytes were taken from `old`, and `new` is left
pub record TakesBytes (n : ℕ) (old new part : List ℕ) : Type 0 where
  pub many : length part ≡ n
  pub spelled : old ≡ part ++ new
  pub left : length old ≡ n + length new
