use Rattle.mode_folds.proofs.Counted.{IsCounted}
use Rattle.mode_folds.proofs.parts.add_parts.Given as goal

abbrev pub invariant-loop-i : goal.invariant-loop-i
invariant-loop-i l = IsCounted l.dims l.initial.folds l.parts l.i l.folds
