-- Dimension rows whose texts can be in a report. Our own.
use Rattle.std.specs.Prelude.{◌<◌, ◌^◌, ℕ, List}
use Rattle.std.specs.List.{AllByRecursion}
use Rattle.cube_model.specs.declared.rows.DimRows.{DimRows}
use Rattle.cube_model.specs.Validity.{Rules, customer_rules, supplier_rules, part_rules, date_rules}
use Rattle.partial_reports.specs.Readable.{HasNoByte}

-- a text has neither a bar (124) nor a line feed (10)
abbrev pub IsUnbroken : List ℕ → Type 0
IsUnbroken text = HasNoByte 124 text × HasNoByte 10 text

-- no member of a row has
abbrev pub AreUnbroken : {Row : Type 0} → Rules Row → List Row → Type 0
AreUnbroken rules rows = AllByRecursion (λ row. AllByRecursion (λ text. IsUnbroken (text row)) rules.texts) rows

-- No member of the four dimensions has, and days have numbers of 32 bits. Rows of tables keep both: bars and line feeds
-- part the fields of a table.
pub record HaveUnbrokenTexts (rows : DimRows) : Type 0 where
  pub customers : AreUnbroken customer_rules rows.customers
  pub suppliers : AreUnbroken supplier_rules rows.suppliers
  pub parts : AreUnbroken part_rules rows.parts
  pub dates : AreUnbroken date_rules rows.dates
  pub days : AllByRecursion (λ row. row.key < 2 ^ 32) rows.dates
