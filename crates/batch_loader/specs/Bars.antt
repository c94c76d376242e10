-- The bars of a text after a place, by the bits of a number.
use Rattle.std.specs.Prelude.{◌≡◌, ℕ, ◌+◌, ◌<◌, ◌≤◌, ◌==◌, nat_le, List, cond, length, slice_index}
use Rattle.std.specs.Int.{bit_at}
use Rattle.batch_loader.specs.Fields.{bar_from}

-- 1 where the byte at a place is a bar (124), and else 0, also past the end
abbrev pub bar_bit : List ℕ → ℕ → ℕ
bar_bit text place = cond (slice_index text place == 124) 1 0

-- of the bars from a place on none is before a window of 64 bytes, and those in it are the bits; the place is not after
-- the window
pub record AreBarsAfter (text : List ℕ) (from first bars : ℕ) : Type 0 where
  pub near : from ≤ first + 64
  pub none : (place : ℕ) → from ≤ place → place < first → bar_bit text place ≡ 0
  pub bits : (k : ℕ) → k < 64 → bit_at bars k ≡ cond (nat_le from (first + k)) (bar_bit text (first + k)) 0

-- the part of a text from a place on ends at its first bar, or with the text; the bits are the bars after it, and after
-- the last part there are none
pub record EndsPart (text : List ℕ) (from end first bars : ℕ) : Type 0 where
  pub start : from ≤ length text
  pub end_is : end ≡ bar_from text from
  pub within : end ≤ length text
  pub bars_after : end < length text → AreBarsAfter text (end + 1) first bars
  pub none : length text ≤ end → bars ≡ 0
