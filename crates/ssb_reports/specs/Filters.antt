-- The conditions of the benchmark's queries, as they are in the program. Our own.
use Rattle.cube_model.specs.declared.query.Cond as cond
use Rattle.cube_model.specs.declared.query.Cond.{Cond}
use Rattle.ssb_reports.specs.declared.filter.Filter.{Filter}
use Rattle.ssb_reports.specs.declared.filter.Filter.TheVariants.{Is, Either, Between, Quantity, Discount}
use Rattle.ssb_reports.specs.Benchmark.{is, is_either}

-- the condition that a filter represents
abbrev pub condition_of : Filter → Cond
condition_of (Is attr text) = is attr text.now
condition_of (Either attr text other) = is_either attr text.now other.now
condition_of (Between attr low high) = cond.TheVariants.Between attr low.now high.now
condition_of (Quantity low high) = cond.TheVariants.Quantity low high
condition_of (Discount low high) = cond.TheVariants.Discount low high
