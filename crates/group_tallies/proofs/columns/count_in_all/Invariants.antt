use Rattle.group_tallies.proofs.Columnwise.{AreCountedBelow}
use Rattle.group_tallies.proofs.columns.count_in_all.Given as goal

abbrev pub invariant-loop-i : goal.invariant-loop-i
invariant-loop-i g l = AreCountedBelow l.i l.aggs (g.F.FactRows.rows l.rows) l.group_slots l.initial.columns l.columns
