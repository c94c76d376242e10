use Rattle.std.proofs.Common.{◌≡◌, ◌++◌, take}
use Rattle.dimensions.specs.Shown.{rows_on}
use Rattle.dimension_objects.specs.Spelled.{codes_in_order, dimension_parts}
use Rattle.dimension_objects.proofs.encoding.push_columns.Given as goal

abbrev pub invariant-loop-column : goal.invariant-loop-column
invariant-loop-column l = l.out.items ≡ l.initial.out.items
    ++ codes_in_order (dimension_parts l.axis (rows_on l.dims l.axis)).codes (take l.column-index l.columns)
