use Rattle.std.proofs.Common.{take}
use Rattle.query_words.specs.Limits.{AreDistinct}
use Rattle.query_words.proofs.limits.repeated.Given as goal

abbrev pub invariant-loop-place : goal.invariant-loop-place
invariant-loop-place l = AreDistinct (take l.place l.columns)
