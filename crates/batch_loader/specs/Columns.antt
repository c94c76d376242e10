-- The columns of a table, and the first fault of a line.
use Rattle.std.specs.Prelude.{ℕ, ◌+◌, not, nat_lt, Option, Some, None, List, [], ◌∷◌, cond, length, Result, Ok, Err}
use Rattle.std.specs.Prelude.{slice_index_or}
use Rattle.cube_model.specs.declared.fault.Fault.{Fault}
use Rattle.cube_model.specs.declared.fault.Fault.TheVariants.{FieldCount, BadNumber, FieldTooLong}
use Rattle.cube_model.specs.declared.fault.Place.TheVariants.{Line}
use Rattle.cube_model.specs.Causes.{first_cause, cause_if}
use Rattle.cube_model.specs.Limits.{longest_line, longest_text}
use Rattle.batch_loader.specs.declared.columns.Column.{Column}
use Rattle.batch_loader.specs.declared.columns.Column.TheVariants.{Number, Text, Skipped}
use Rattle.batch_loader.specs.Fields.{fields_of}
use Rattle.batch_loader.specs.Numbers.{spells_number, digits_value}
use Rattle.batch_loader.specs.Outcomes.{unless}

-- why a field is refused, in a line and at a field number: a number column wants a number up to its limit, a kept text
-- has at most 255 bytes
abbrev pub field_fault : ℕ → ℕ → Column → List ℕ → Option Fault
field_fault line field (Number limit) text = cause_if (not (spells_number limit text)) (BadNumber line field)
field_fault line field Text text = cause_if (nat_lt longest_text (length text)) (FieldTooLong (Line line) field)
field_fault line field Skipped text = None

-- the first field that is refused, from left to right. Field numbers begin with one
abbrev pub fields_fault : ℕ → ℕ → List Column → List (List ℕ) → Option Fault
fields_fault line field [] texts = None
fields_fault line field (column ∷ columns) [] = None
fields_fault line field (column ∷ columns) (text ∷ texts) =
    first_cause (field_fault line field column text ∷ fields_fault line (field + 1) columns texts ∷ [])

-- the row of fields, unless there are none in the right number or one is refused
abbrev pub row_of_fields : {Row : Type 0} → List Column → (List (List ℕ) → Row) → ℕ → Option (List (List ℕ))
    → Result Row Fault
row_of_fields columns row line None = Err (FieldCount line)
row_of_fields columns row line (Some fields) = unless (fields_fault line 1 columns fields) (Ok (row fields))

-- the row of a line with a number, or its first fault: a line above 8,192 bytes (field 0), the number of fields, then
-- the fields
abbrev pub row_of : {Row : Type 0} → List Column → (List (List ℕ) → Row) → ℕ → List ℕ → Result Row Fault
row_of columns row number line =
    cond (nat_lt longest_line (length line)) (Err (FieldTooLong (Line number) 0))
    (row_of_fields columns row number (fields_of (length columns) line))

-- the number that a field spells, by its place from 0
abbrev pub number_in : List (List ℕ) → ℕ → ℕ
number_in fields place = digits_value (slice_index_or fields place [])

-- a field as a text
abbrev pub field_text : List (List ℕ) → ℕ → List ℕ
field_text fields place = slice_index_or fields place []
