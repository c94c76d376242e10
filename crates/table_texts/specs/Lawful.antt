-- Tables that were written are read back: the lines of the text give the rows again.
use Rattle.std.specs.Prelude.{◌≡◌, ℕ, Bool, true, List, Result, Ok}
use Rattle.std.specs.List.{list_all}
use Rattle.cube_model.specs.declared.fault.Fault.{Fault}
use Rattle.batch_loader.specs.Lines.{lines_of}
use Rattle.batch_loader.specs.Rows.{rows_of}
use Rattle.batch_loader.specs.Tables.{customer_row, supplier_row, part_row, date_row, lineorder_row}
use Rattle.table_texts.specs.Spellable.{is_spellable, is_spellable_customer, is_spellable_supplier, is_spellable_part}
use Rattle.table_texts.specs.Spellable.{is_spellable_date}
use Rattle.table_texts.specs.Texts.{table_text, customer_fields, supplier_fields, part_fields, date_fields, fact_fields}

-- the rows of the lines of a table's text are the rows of the table, whatever number the first line has
abbrev pub ReadsBack : {Row : Type 0} → (ℕ → List ℕ → Result Row Fault) → (Row → List (List ℕ)) → (Row → Bool) → Type 0
ReadsBack {Row} row fields spellable =
    (number : ℕ) (rows : List Row) → list_all spellable rows ≡ true
    → rows_of row number (lines_of (table_text fields rows)) ≡ Ok rows

-- the same of the table of fact rows, and of the tables of the dimensions
abbrev pub FactsReadBack : Type 0
FactsReadBack = ReadsBack lineorder_row fact_fields is_spellable

pub record DimensionsReadBack : Type 0 where
  pub customers : ReadsBack customer_row customer_fields is_spellable_customer
  pub suppliers : ReadsBack supplier_row supplier_fields is_spellable_supplier
  pub parts : ReadsBack part_row part_fields is_spellable_part
  pub dates : ReadsBack date_row date_fields is_spellable_date
