use Rattle.std.proofs.Common.{◌≡◌, take}
use Rattle.std.specs.List.{filter}
use Rattle.cube_query.specs.Asked.{is_asked}
use Rattle.cube_query.proofs.asked.asked_columns.Given as goal

abbrev pub invariant-loop-column : goal.invariant-loop-column
invariant-loop-column l = l.asked.items ≡ filter (is_asked l.query) (take l.column-index l.column-items)
