use Rattle.std.proofs.Common.{◌≡◌, ◌++◌, map}
use Rattle.std.specs.List.{range_with_len}
use Rattle.column_segment.specs.Decoded.{row_in}
use Rattle.column_segment.proofs.rows.push_each.Given as goal

abbrev pub invariant-loop-i : goal.invariant-loop-i
invariant-loop-i l = l.to.items ≡ l.initial.to.items ++ map (row_in l.bytes l.layout) (range_with_len l.first l.i)
