use Rattle.std.proofs.Common.{◌≡◌, [], map}
use Rattle.std.proofs.Math.ListN.{replicate}
use Rattle.mode_folds.proofs.dividing.empty_parts.Given as goal

abbrev pub invariant-loop : goal.invariant-loop
invariant-loop g l = map (λ part. part.items) l.parts.items ≡ replicate l.counter []
