use Rattle.std.proofs.Common.{◌≡◌, map, take}
use Rattle.sample_star.specs.Facts.{line_order_of}
use Rattle.sample_star.proofs.facts.line_orders.Given as goal

abbrev pub invariant-loop-fact : goal.invariant-loop-fact
invariant-loop-fact l = l.rows.items ≡ map line_order_of (take l.fact-index l.facts)
