use Rattle.std.proofs.Common.{◌≡◌, length}
use Rattle.dimensions.specs.Coded.{ColumnsHaveTexts}
use Rattle.dimension_objects.proofs.columns.empty_columns.Given as goal

abbrev pub invariant-loop : goal.invariant-loop
invariant-loop l = record {
  count : length l.columns.items ≡ l.counter;
  have : ColumnsHaveTexts l.columns.items;
}
