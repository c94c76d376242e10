-- Dimension rows that are added to others. Our own.
use Rattle.std.specs.Prelude.{ℕ, zero, suc, ◌+◌, List, [], ◌∷◌, ◌++◌, length}
use Rattle.cube_model.specs.declared.attr.Axis.{Axis}
use Rattle.cube_model.specs.declared.attr.Axis.TheVariants.{Customer, Supplier, Part, Date}
use Rattle.cube_model.specs.declared.rows.DimRows.{DimRows}
use Rattle.dimensions.specs.Added.{joined}
use Rattle.warehouse_objects.specs.Represents.{dimension_of}
use Rattle.warehouse_objects.specs.Warehouse.{Warehouse}

-- a warehouse with rows added to its dimensions
abbrev pub widened : Warehouse → DimRows → Warehouse
widened w more = record w { rows = joined w.rows more; additions = w.additions + 1 }

-- a dimension is put where it has new rows
abbrev pub put_of : DimRows → Axis → ℕ → ℕ → List (ℕ × List ℕ)
put_of rows axis id zero = []
put_of rows axis id (suc count) = (id, dimension_of rows axis) ∷ []

-- all that an addition puts: each dimension that has new rows
abbrev pub widening_puts : DimRows → DimRows → List (ℕ × List ℕ)
widening_puts rows more =
    put_of (joined rows more) Customer 1 (length more.customers)
    ++ (put_of (joined rows more) Supplier 2 (length more.suppliers)
    ++ (put_of (joined rows more) Part 3 (length more.parts)
    ++ put_of (joined rows more) Date 4 (length more.dates)))
