-- What a session keeps in memory of its warehouse.
use Rattle.std.specs.Prelude.{◌≡◌}
use Rattle.cube_model.specs.declared.rows.DimRows.{DimRows}
use Rattle.warehouse_root.specs.Root.{PlainRoot}
use Rattle.warehouse_objects.specs.Represents.{root_of}
use Rattle.warehouse_objects.specs.Warehouse.{Warehouse}

-- what is kept in memory is what the warehouse is
pub record Agrees (w : Warehouse) (rows : DimRows) (root : PlainRoot) : Type 0 where
  pub rows_are : w.rows ≡ rows
  pub root_is : root_of w ≡ root
