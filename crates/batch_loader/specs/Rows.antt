-- The rows of the lines of a text.
use Rattle.std.specs.Prelude.{ℕ, ◌+◌, suc, zero, min, List, [], ◌∷◌, Result, Ok, Err}
use Rattle.cube_model.specs.declared.fault.Fault.{Fault}

-- the number of the next line, which stays at the greatest of 64 bits
abbrev pub next_number : ℕ → ℕ
next_number number = min (number + 1) 18446744073709551615

-- the number of lines taken after some more
abbrev pub number_after : ℕ → ℕ → ℕ
number_after zero number = number
number_after (suc count) number = number_after count (next_number number)

-- a row in front of others, or the fault that comes first
abbrev pub row_before : {Row : Type 0} → Result Row Fault → Result (List Row) Fault → Result (List Row) Fault
row_before (Err fault) others = Err fault
row_before (Ok row) (Err fault) = Err fault
row_before (Ok row) (Ok rows) = Ok (row ∷ rows)

-- the rows of lines, of which the first has a number, or the fault of the first line that is refused
abbrev pub rows_of : {Row : Type 0} → (ℕ → List ℕ → Result Row Fault) → ℕ → List (List ℕ) → Result (List Row) Fault
rows_of row number [] = Ok []
rows_of row number (line ∷ lines) = row_before (row number line) (rows_of row (next_number number) lines)
