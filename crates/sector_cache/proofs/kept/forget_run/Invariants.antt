use Rattle.sector_cache.specs.Kept.{ForgetsRun}
use Rattle.sector_cache.proofs.kept.forget_run.Given as goal

abbrev pub invariant-loop-k : goal.invariant-loop-k
invariant-loop-k l = ForgetsRun l.first l.k l.initial.kept.entries l.kept.entries
