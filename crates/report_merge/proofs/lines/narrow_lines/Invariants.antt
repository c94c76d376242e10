use Rattle.std.proofs.Common.{◌≡◌, take}
use Rattle.partial_reports.specs.Wide.{narrow_lines}
use Rattle.report_merge.proofs.lines.narrow_lines.Given as goal

abbrev pub invariant-loop-line : goal.invariant-loop-line
invariant-loop-line l = l.narrow ≡ narrow_lines (take l.line-index l.lines)
