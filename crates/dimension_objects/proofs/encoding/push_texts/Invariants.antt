use Rattle.std.proofs.Common.{◌≡◌, ◌++◌, take}
use Rattle.dimensions.specs.Shown.{rows_on}
use Rattle.dimension_objects.specs.Spelled.{dimension_parts, texts_in_order}
use Rattle.dimension_objects.proofs.encoding.push_texts.Given as goal

abbrev pub invariant-loop-column : goal.invariant-loop-column
invariant-loop-column l = l.out.items ≡ l.initial.out.items
    ++ texts_in_order (dimension_parts l.axis (rows_on l.dims l.axis)).texts (take l.column-index l.columns)
