use Rattle.std.proofs.Common.{◌≡◌, map, take}
use Rattle.ssb_reports.specs.Filters.{condition_of}
use Rattle.ssb_reports.proofs.benchmark.conditions_of.Given as goal

abbrev pub invariant-loop-filter : goal.invariant-loop-filter
invariant-loop-filter l = l.conditions ≡ map condition_of (take l.filter-index l.filters)
