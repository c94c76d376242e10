-- What a warehouse is made of.
use Rattle.std.specs.Prelude.{◌≡◌, []}
use Rattle.cube_model.specs.declared.attr.Axis.TheVariants.{Customer, Supplier, Part, Date}
use Rattle.cube_model.specs.declared.rows.DimRows.{DimRows}
use Rattle.warehouse_root.specs.declared.layout.Layout.{Layout}
use Rattle.warehouse_root.specs.Modes.{modes_spelling}
use Rattle.warehouse_root.specs.Root.{IsRoot, first_root}
use Rattle.warehouse_objects.specs.Represents.{dimension_of}
use Rattle.dimensions.specs.Shown.{AreStorable}
use Rattle.warehouse.specs.declared.beginning.Beginning.{Beginning}

-- the bytes of the four dimensions, which can be stored, and of no ship modes, and the root of no batch with its bytes
pub record IsBeginning (layout : Layout) (rows : DimRows) (b : Beginning) : Type 0 where
  pub storable : AreStorable rows
  pub customers : b.customers.items ≡ dimension_of rows Customer
  pub suppliers : b.suppliers.items ≡ dimension_of rows Supplier
  pub parts : b.parts.items ≡ dimension_of rows Part
  pub dates : b.dates.items ≡ dimension_of rows Date
  pub modes : b.modes.items ≡ modes_spelling []
  pub root_is : b.root ≡ first_root layout
  pub spelled : IsRoot b.root_bytes.items b.root
