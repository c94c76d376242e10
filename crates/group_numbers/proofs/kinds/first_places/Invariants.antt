use Rattle.group_numbers.proofs.KindsLemmas.{AreFirst}
use Rattle.group_numbers.proofs.kinds.first_places.Given as goal

abbrev pub invariant-loop-place : goal.invariant-loop-place
invariant-loop-place l = AreFirst l.count l.codes l.place l.places.items
