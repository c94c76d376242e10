-- How many fields a line has. Our own.
use Rattle.std.specs.Prelude.{ℕ, ◌-◌, ◌==◌, cond, List, length, slice_index_or}
use Rattle.batch_loader.specs.Fields.{between_bars}

-- of a line without its CR: a bar at its end (124) is before no further field
abbrev pub count_of_fields : List ℕ → ℕ
count_of_fields line =
    cond (slice_index_or line (length line - 1) 0 == 124) (length (between_bars line) - 1) (length (between_bars line))
