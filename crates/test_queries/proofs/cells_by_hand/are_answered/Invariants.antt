use Rattle.std.proofs.Common.{◌≡◌}
use Rattle.cube_query.specs.Groups.{IsOver}
use Rattle.test_queries.proofs.cells_by_hand.are_answered.Given as goal

abbrev pub invariant-loop-place : goal.invariant-loop-place
invariant-loop-place l = IsOver l.dims l.fold × (l.fold.query ≡ l.query)
