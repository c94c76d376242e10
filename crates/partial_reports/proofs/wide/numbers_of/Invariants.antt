use Rattle.std.proofs.Common.{◌≡◌, map, take}
use Rattle.cube_model.specs.declared.answer.Value.TheVariants.{Whole}
use Rattle.partial_reports.proofs.wide.numbers_of.Given as goal

abbrev pub invariant-loop-value : goal.invariant-loop-value
invariant-loop-value l = map Whole l.numbers ≡ take l.value-index l.values
