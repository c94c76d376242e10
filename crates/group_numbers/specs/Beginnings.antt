-- How the dimensions that group numbers are given relate to those that they were made over. Our own.
use Rattle.std.specs.Prelude.{◌≡◌, List, ◌++◌}
use Rattle.cube_model.specs.declared.rows.DimRows.{DimRows}

-- rows, with others after them
abbrev pub HasAfter : {Row : Type 0} → List Row → List Row → Type 0
HasAfter {Row} rows longer = (more : List Row) × (longer ≡ rows ++ more)

-- dimensions with rows added after those of their beginning
pub record Extend (beginning dimensions : DimRows) : Type 0 where
  pub customers : HasAfter beginning.customers dimensions.customers
  pub suppliers : HasAfter beginning.suppliers dimensions.suppliers
  pub parts : HasAfter beginning.parts dimensions.parts
  pub dates : HasAfter beginning.dates dimensions.dates

-- The dimensions that group numbers are handed are those of their beginning: they have the same rows.
abbrev pub AreThoseOf : DimRows → DimRows → Type 0
AreThoseOf beginning dimensions = dimensions ≡ beginning
