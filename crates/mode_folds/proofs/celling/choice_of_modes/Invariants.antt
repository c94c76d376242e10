use Rattle.std.proofs.Common.{◌≡◌, map, take}
use Rattle.mode_queries.specs.Selection.{passes_modes}
use Rattle.mode_folds.proofs.celling.choice_of_modes.Given as goal

abbrev pub invariant-loop-code : goal.invariant-loop-code
invariant-loop-code l = l.choice.items ≡ take l.code (map (passes_modes l.conditions) l.modes.texts)
