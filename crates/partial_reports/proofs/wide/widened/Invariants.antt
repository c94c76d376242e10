use Rattle.std.proofs.Common.{◌≡◌}
use Rattle.partial_reports.specs.Wide.{narrow_lines}
use Rattle.partial_reports.proofs.wide.widened.Given as goal

abbrev pub invariant-loop-line : goal.invariant-loop-line
invariant-loop-line l = narrow_lines l.wide.items ≡ l.yielded
