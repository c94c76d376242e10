use Rattle.std.proofs.Common.{◌≡◌, map}
use Rattle.partial_reports.specs.Wide.{narrow_lines}
use Rattle.report_merge.specs.Finishing.{recounted_line}
use Rattle.report_merge.proofs.finishing.recounted.Given as goal

abbrev pub invariant-loop-line : goal.invariant-loop-line
invariant-loop-line l = narrow_lines l.found.items ≡ map recounted_line (narrow_lines l.yielded)
