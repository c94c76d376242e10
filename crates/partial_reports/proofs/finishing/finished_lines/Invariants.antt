use Rattle.std.proofs.Common.{◌≡◌, map}
use Rattle.partial_reports.specs.Parts.{finished_line}
use Rattle.partial_reports.specs.Wide.{narrow_lines}
use Rattle.partial_reports.proofs.finishing.finished_lines.Given as goal

abbrev pub invariant-loop-line : goal.invariant-loop-line
invariant-loop-line l = l.done ≡ map (finished_line l.aggs) (narrow_lines l.yielded)
