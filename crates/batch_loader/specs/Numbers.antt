-- The number that digits spell.
use Rattle.std.specs.Prelude.{ℕ, ◌+◌, ◌-◌, ◌*◌, ◌&&◌, nat_lt, nat_le, Bool, List, Option, Some, None, cond, length}
use Rattle.std.specs.Prelude.{fold}
use Rattle.std.specs.List.{list_all}

-- a byte is a digit
abbrev pub is_digit : ℕ → Bool
is_digit byte = nat_le 48 byte && nat_le byte 57

-- the value of digits, the first one highest
abbrev pub digits_value : List ℕ → ℕ
digits_value digits = fold (λ so_far byte. so_far * 10 + (byte - 48)) 0 digits

-- a text spells a number up to a limit: one digit or more, and a value in range
abbrev pub spells_number : ℕ → List ℕ → Bool
spells_number limit text = nat_lt 0 (length text) && (list_all is_digit text && nat_le (digits_value text) limit)

-- the number up to a limit that a text spells, if it spells one
abbrev pub number_spelled : ℕ → List ℕ → Option ℕ
number_spelled limit text = cond (spells_number limit text) (Some (digits_value text)) None
