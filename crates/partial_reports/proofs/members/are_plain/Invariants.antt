use Rattle.std.proofs.Common.{◌≡◌, drop}
use Rattle.std.specs.List.{list_all}
use Rattle.partial_reports.specs.Members.{is_plain_line}
use Rattle.partial_reports.proofs.members.are_plain.Given as goal

abbrev pub invariant-loop-place : goal.invariant-loop-place
invariant-loop-place g l = list_all is_plain_line (g.L.Lines.lines l.lines)
    ≡ list_all is_plain_line (drop l.place (g.L.Lines.lines l.lines))
