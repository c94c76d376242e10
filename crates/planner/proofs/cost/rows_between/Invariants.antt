use Rattle.std.proofs.Common.{◌≡◌, ◌*◌, ◌≤◌, take}
use Rattle.std.specs.List.{sum}
use Rattle.planner.proofs.cost.rows_between.Given as goal

abbrev pub invariant-loop-rows : goal.invariant-loop-rows
invariant-loop-rows l = record {
  total : l.total ≡ sum (take l.rows-index l.tail);
  fits : l.total ≤ 4294967295 * l.rows-index;
}
