use Rattle.group_numbers.specs.GroupNumbers.{IsShut}
use Rattle.group_numbers.proofs.Filtering.{OnlyShuts}
use Rattle.group_numbers.proofs.filter.Filter.of.Given as goal

abbrev pub invariant-loop-row : goal.invariant-loop-row
invariant-loop-row l = OnlyShuts (IsShut l.dims l.fn.axis l.side) l.first l.passes.items
