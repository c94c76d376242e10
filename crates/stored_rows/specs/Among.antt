-- Dimension rows that are among others already. Our own.
use Rattle.std.specs.Prelude.{◌≡◌, All, Some}
use Rattle.cube_model.specs.declared.rows.CustomerRow.{CustomerRow}
use Rattle.cube_model.specs.declared.rows.SupplierRow.{SupplierRow}
use Rattle.cube_model.specs.declared.rows.PartRow.{PartRow}
use Rattle.cube_model.specs.declared.rows.DateRow.{DateRow}
use Rattle.cube_model.specs.declared.rows.DimRows.{DimRows}
use Rattle.cube_model.specs.Attributes.{customer_of, date_of, part_of, supplier_of}

-- the row with its key is this one
abbrev pub HasCustomer : DimRows → CustomerRow → Type 0
HasCustomer rows row = customer_of rows row.key ≡ Some row

abbrev pub HasSupplier : DimRows → SupplierRow → Type 0
HasSupplier rows row = supplier_of rows row.key ≡ Some row

abbrev pub HasPart : DimRows → PartRow → Type 0
HasPart rows row = part_of rows row.key ≡ Some row

abbrev pub HasDate : DimRows → DateRow → Type 0
HasDate rows row = date_of rows row.key ≡ Some row

-- each of some rows is among those of dimensions, under its key and with the same texts
pub record ContainsRows (rows some : DimRows) : Type 0 where
  pub customers : All (HasCustomer rows) some.customers
  pub suppliers : All (HasSupplier rows) some.suppliers
  pub parts : All (HasPart rows) some.parts
  pub dates : All (HasDate rows) some.dates
