use Rattle.std.proofs.Common.{◌≡◌, take}
use Rattle.group_tallies.specs.GroupLines.{lines_by}
use Rattle.group_tallies.proofs.lines.lines_among.Given as goal

abbrev pub invariant-loop-i : goal.invariant-loop-i
invariant-loop-i l = l.lines.items ≡ lines_by l.grouping.dimensions l.grouping.query l.columns (take l.i l.groups)
