-- What the texts of the dimension tables come to: rows that keep the rules, or the first refusal. Our own.
use Rattle.std.specs.Prelude.{◌≡◌, ℕ, ◌⊎◌, List, Result, Ok, Err}
use Rattle.batch_loader.specs.Lines.{lines_of}
use Rattle.batch_loader.specs.Outcomes.{and_then, unless}
use Rattle.batch_loader.specs.Rows.{rows_of}
use Rattle.batch_loader.specs.Tables.{customer_row, supplier_row, part_row, date_row}
use Rattle.cube_model.specs.declared.fault.Fault.{Fault}
use Rattle.cube_model.specs.declared.fault.Fault.TheVariants.{Memory, Input}
use Rattle.cube_model.specs.declared.rows.DimRows.{DimRows}
use Rattle.cube_model.specs.Validity.{invalid_cause}

-- the texts of the five tables
pub record TableTexts : Type 0 where
  pub customer : List ℕ
  pub supplier : List ℕ
  pub part : List ℕ
  pub date : List ℕ
  pub lineorder : List ℕ

-- the rows of a table's text, whose lines count from 1
abbrev pub table_rows : {Row : Type 0} → (ℕ → List ℕ → Result Row Fault) → List ℕ → Result (List Row) Fault
table_rows row text = rows_of row 1 (lines_of text)

-- dimension rows that keep the rules
abbrev pub valid_rows : DimRows → Result DimRows Fault
valid_rows rows = unless (invalid_cause rows) (Ok rows)

-- the rows of the four tables, whether they keep the rules or not
abbrev pub tables_of : TableTexts → Result DimRows Fault
tables_of texts =
    and_then (table_rows customer_row texts.customer) (λ customers.
    and_then (table_rows supplier_row texts.supplier) (λ suppliers.
    and_then (table_rows part_row texts.part) (λ parts.
    and_then (table_rows date_row texts.date) (λ dates.
    Ok (record { customers = customers; suppliers = suppliers; parts = parts; dates = dates })))))

-- the rows of the four dimensions: all texts are read before the rules are looked at
abbrev pub dimensions_of : TableTexts → Result DimRows Fault
dimensions_of texts = and_then (tables_of texts) valid_rows

-- a call found what a definition says, or its refusal; or memory was refused, or a reader failed
abbrev pub GivesUnlessFailed : {A : Type 0} → Result A Fault → Result A Fault → Type 0
GivesUnlessFailed outcome (Ok value) = outcome ≡ Ok value
GivesUnlessFailed outcome (Err fault) = (fault ≡ Memory) ⊎ ((fault ≡ Input) ⊎ (outcome ≡ Err fault))
