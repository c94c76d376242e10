use Rattle.std.proofs.Common.{◌≡◌, length}
use Rattle.dictionary.specs.Dictionary.{EachOnce}
use Rattle.mode_folds.specs.Divided.{AreDivided}
use Rattle.mode_folds.proofs.dividing.divided.Given as goal

abbrev pub invariant-loop-row : goal.invariant-loop-row
invariant-loop-row l = record {
  counted : length l.parts.items ≡ length l.modes.texts;
  divided : EachOnce l.initial.modes.texts
      → AreDivided l.initial.modes.texts l.modes.texts l.yielded l.parts.items;
}
