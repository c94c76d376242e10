use Rattle.group_numbers.proofs.MemberRowsLemmas.{HaveSoFar}
use Rattle.group_numbers.proofs.member_rows.member_places.Given as goal

abbrev pub invariant-loop-i : goal.invariant-loop-i
invariant-loop-i l = HaveSoFar l.dims l.attr l.rows.items l.i l.places.items
