use Rattle.std.proofs.Common.{◌≡◌, ◌++◌}
use Rattle.partial_reports.specs.Merges.{merged_lines}
use Rattle.partial_reports.specs.Wide.{Rise, narrow_lines}
use Rattle.partial_reports.proofs.merging.merge.Given as goal

abbrev pub invariant-loop : goal.invariant-loop
invariant-loop l =
    (merged_lines l.aggs (narrow_lines l.fn.ones.items) (narrow_lines l.fn.others.items) ≡ narrow_lines l.lines.items
    ++ merged_lines l.aggs (narrow_lines l.left.items) (narrow_lines l.right.items))
    × Rise l.left.items × Rise l.right.items
