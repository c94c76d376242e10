-- Digits as the bytes of a number.
use Rattle.std.specs.Prelude.{◌≡◌, ℕ, ◌+◌, ◌*◌, ◌%◌, ◌<◌, ◌≤◌, List, length, fold, slice_index}
use Rattle.std.specs.Simd.Lanes.{Each1, number_l}

-- so many bytes of a text from a place on are digits
abbrev pub AreDigits : List ℕ → ℕ → ℕ → Type 0
AreDigits text start count = (k : ℕ) → k < count → (48 ≤ slice_index text (start + k))
    × (slice_index text (start + k) ≤ 57)

-- the eight bytes of a number, the lowest first, are digits from 0 to 9
pub record IsSpread (number : ℕ) (digits : List ℕ) : Type 0 where
  pub eight : length digits ≡ 8
  pub small : Each1 (λ digit. digit ≤ 9) digits
  pub bytes : number ≡ number_l 256 digits

-- the number that digits spell, the first one highest
abbrev pub decimal_of : List ℕ → ℕ
decimal_of digits = fold (λ so_far digit. so_far * 10 + digit) 0 digits

-- 118 more in each of eight bytes, round the numbers of 64 bits
abbrev pub raised : ℕ → ℕ
raised number = (number + 8536140394893047414) % 18446744073709551616
