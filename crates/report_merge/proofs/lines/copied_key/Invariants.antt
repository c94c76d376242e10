use Rattle.std.proofs.Common.{◌≡◌, take}
use Rattle.report_merge.proofs.lines.copied_key.Given as goal

abbrev pub invariant-loop-member : goal.invariant-loop-member
invariant-loop-member l = l.copy ≡ take l.member-index l.key
