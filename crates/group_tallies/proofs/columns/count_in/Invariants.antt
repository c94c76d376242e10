use Rattle.std.proofs.Common.{◌≡◌, take, length}
use Rattle.group_tallies.specs.Columns.{CountsIn, IsBounded}
use Rattle.group_tallies.proofs.columns.count_in.Given as goal

abbrev pub invariant-loop-place : goal.invariant-loop-place
invariant-loop-place g l = CountsIn l.agg (take l.place (g.F.FactRows.rows l.rows)) (take l.place l.group_slots)
    l.initial.column l.column
    × IsBounded l.agg (take l.place (g.F.FactRows.rows l.rows)) (take l.place l.group_slots) l.initial.column l.column
    × (length l.column ≡ length l.initial.column)
