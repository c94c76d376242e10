-- What is written is read back. Each is proved as the contract of a function of its name.
use Rattle.std.specs.Prelude.{◌≡◌, ℕ, ◌==◌, if◌then◌else◌, false, List, [], ◌∷◌, ◌++◌}
use Rattle.csv.specs.Machine.{next_record}
use Rattle.csv.specs.Reading.{default_config}
use Rattle.csv.specs.declared.parser.State.TheVariants.{InField, StartField}
use Rattle.report_formats.specs.Escapes.{csv_text, tsv_text}

-- A reader of csv that is at the beginning of a field has read its text once it is past what was written of it. Then
-- comes a comma or the end of the line, which is no quotation mark
abbrev pub CsvReadsBack : Type 0
CsvReadsBack = (fields : List (List ℕ)) (text : List ℕ) (next : ℕ) (rest : List ℕ) → (next == 34) ≡ false
    → next_record default_config StartField fields [] (csv_text text ++ next ∷ rest)
    ≡ next_record default_config InField fields text (next ∷ rest)

-- what a byte after a backslash means in tsv
abbrev pub meant_by : ℕ → ℕ
meant_by b = if b == 116 then 9 else (if b == 110 then 10 else (if b == 114 then 13 else b))

-- the text of a field of tsv
abbrev pub tsv_read : List ℕ → List ℕ
tsv_read [] = []
tsv_read (b ∷ []) = b ∷ []
tsv_read (b ∷ next ∷ rest) = if b == 92 then meant_by next ∷ tsv_read rest else b ∷ tsv_read (next ∷ rest)

abbrev pub TsvReadsBack : Type 0
TsvReadsBack = (text : List ℕ) → tsv_read (tsv_text text) ≡ text
