use Rattle.std.proofs.Common.{◌<◌, length}
use Rattle.table_generator.proofs.calendar.last_within.Given as goal

abbrev pub invariant-loop-place : goal.invariant-loop-place
invariant-loop-place l = l.found.0 < length l.numbers
