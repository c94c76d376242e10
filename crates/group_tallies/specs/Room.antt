-- Whether the tallies of a column can take more numbers. Our own.
use Rattle.std.specs.Prelude.{ℕ, ◌&&◌, nat_lt, Bool, true, List, length, Option, Some, None}
use Rattle.group_tallies.specs.Columns.{can_add, tally_at}
use Rattle.group_tallies.specs.declared.tally.Tally.{Tally}

-- the slot, if there is one, lies in the column, and its tally can take so many numbers more, whose absolute values
-- have a sum
abbrev pub can_take : List Tally → Option ℕ → ℕ → ℕ → Bool
can_take column None count size = true
can_take column (Some slot) count size = nat_lt slot (length column) && can_add (tally_at column slot) count size
