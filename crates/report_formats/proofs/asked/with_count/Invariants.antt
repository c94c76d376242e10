use Rattle.std.proofs.Common.{◌≡◌, map, take}
use Rattle.report_formats.specs.Asked.{summed}
use Rattle.report_formats.proofs.asked.with_count.Given as goal

abbrev pub invariant-loop-agg : goal.invariant-loop-agg
invariant-loop-agg l = l.list ≡ map summed (take l.agg-index l.aggregates)
