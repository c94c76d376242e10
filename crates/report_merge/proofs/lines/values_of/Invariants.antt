use Rattle.std.proofs.Common.{◌≡◌, map, take}
use Rattle.cube_model.specs.declared.answer.Value.TheVariants.{Whole}
use Rattle.report_merge.proofs.lines.values_of.Given as goal

abbrev pub invariant-loop-place : goal.invariant-loop-place
invariant-loop-place l = l.values ≡ map Whole (take l.place l.numbers)
