use Rattle.std.proofs.Common.{◌≡◌, ◌≤◌, ℕ, take, length}
use Rattle.std.specs.List.{AllByRecursion}
use Rattle.group_tallies.specs.Columns.{tallies_at}
use Rattle.group_tallies.proofs.columns.lengthen_all.Given as goal

abbrev pub invariant-loop-i : goal.invariant-loop-i
invariant-loop-i l = ((slot : ℕ) → tallies_at l.columns slot ≡ tallies_at l.initial.columns slot)
    × AllByRecursion (λ column. l.len ≤ length column.items) (take l.i l.columns)
    × (length l.columns ≡ length l.initial.columns)
