use Rattle.std.proofs.Common.{◌≡◌, map, take}
use Rattle.std.specs.List.{All}
use Rattle.group_tallies.specs.Columns.{entry_line}
use Rattle.group_tallies.specs.Ranks.{IsRank}
use Rattle.group_numbers.specs.Numbers.{group_key_at}
use Rattle.group_tallies.proofs.order.ranked.Given as goal

abbrev pub invariant-loop-i : goal.invariant-loop-i
invariant-loop-i l = (map (λ rank. rank.2) l.ranked.items ≡ take l.i l.groups)
    × All (IsRank l.grouping.dimensions l.grouping.query.columns l.order
    (entry_line (group_key_at l.grouping.dimensions l.grouping.query.columns) l.aggregates l.columns)) l.ranked.items
