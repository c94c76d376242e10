-- What a line's fields are read into.
use Rattle.std.specs.Prelude.{◌≡◌, ◌≤◌, ℕ, suc, ⊤, List, [], ◌∷◌, Some, length, slice_index}
use Rattle.cube_model.specs.Limits.{longest_text}
use Rattle.batch_loader.specs.declared.columns.Column.{Column}
use Rattle.batch_loader.specs.declared.columns.Column.TheVariants.{Number, Text, Skipped}
use Rattle.batch_loader.specs.Columns.{number_in, field_text}
use Rattle.batch_loader.specs.Numbers.{number_spelled}

-- in a number column a number is the value of its field, and in range
abbrev pub FitsField : Column → ℕ → ℕ → Type 0
FitsField (Number limit) value number = (number ≡ value) × (number ≤ limit)
FitsField Text value number = ⊤
FitsField Skipped value number = ⊤

-- from a place on, the numbers fit their columns
abbrev pub AreNumbers : ℕ → List Column → List (List ℕ) → List ℕ → Type 0
AreNumbers place [] fields numbers = ⊤
AreNumbers place (column ∷ columns) fields numbers =
    FitsField column (number_in fields place) (slice_index numbers place)
    × AreNumbers (suc place) columns fields numbers

-- a field fits its column: in a number column it spells a number, up to the column's limit, and a kept text is short
-- enough
abbrev pub ReadsField : Column → List ℕ → ℕ → Type 0
ReadsField (Number limit) text number = Some number ≡ number_spelled limit text
ReadsField Text text number = length text ≤ longest_text
ReadsField Skipped text number = ⊤

-- from a place on, the fields fit their columns, and the numbers are those that they spell
abbrev pub ReadsFields : ℕ → List Column → List (List ℕ) → List ℕ → Type 0
ReadsFields place [] fields numbers = ⊤
ReadsFields place (column ∷ columns) fields numbers =
    ReadsField column (field_text fields place) (slice_index numbers place)
    × ReadsFields (suc place) columns fields numbers

-- the same of columns whose numbers are in a list of their own
abbrev pub ReadsNumbers : ℕ → List Column → List (List ℕ) → List ℕ → Type 0
ReadsNumbers place [] fields numbers = ⊤
ReadsNumbers place (column ∷ columns) fields [] = ⊥
ReadsNumbers place (column ∷ columns) fields (number ∷ numbers) =
    ReadsField column (field_text fields place) number × ReadsNumbers (suc place) columns fields numbers
