use Rattle.std.proofs.Common.{◌<◌, ℕ}
use Rattle.dimensions.specs.Shapes.{lower_of}
use Rattle.dimensions.specs.Coded.{IsProperColumn, coded_at, place_total}
use Rattle.dimensions.proofs.coded.CodedRows.has_proper_columns.Given as goal

abbrev pub invariant-loop-i : goal.invariant-loop-i
invariant-loop-i l = (k : ℕ) → k < l.i → IsProperColumn (place_total l.self (lower_of l.axis k)) (coded_at l.self k)
