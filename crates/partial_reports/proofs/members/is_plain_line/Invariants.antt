use Rattle.std.proofs.Common.{◌≡◌, drop}
use Rattle.std.specs.List.{list_all}
use Rattle.group_tallies.specs.GroupLines.{line_at}
use Rattle.partial_reports.specs.Members.{is_plain_member}
use Rattle.partial_reports.proofs.members.is_plain_line.Given as goal

abbrev pub invariant-loop-column : goal.invariant-loop-column
invariant-loop-column g l =
    list_all is_plain_member (line_at (g.L.Lines.lines l.lines) l.place).key
    ≡ list_all is_plain_member (drop l.column (line_at (g.L.Lines.lines l.lines) l.place).key)
