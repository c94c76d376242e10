use Rattle.std.proofs.Common.{◌≡◌, None, replicate}
use Rattle.warehouse.proofs.query_slots.QuerySlots.new.Given as goal

abbrev pub invariant-loop : goal.invariant-loop
invariant-loop l = l.queries.items ≡ replicate l.counter None
