use Rattle.std.proofs.Common.{◌≡◌}
use Rattle.mode_folds.specs.Joining.{lines_of_entries}
use Rattle.mode_folds.proofs.joining.listed.Given as goal

abbrev pub invariant-loop-key : goal.invariant-loop-key
invariant-loop-key l = l.listed.items ≡ lines_of_entries l.yielded
