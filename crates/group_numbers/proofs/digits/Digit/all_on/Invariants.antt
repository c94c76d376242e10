use Rattle.std.proofs.Common.{◌≡◌, ◌++◌, drop}
use Rattle.group_numbers.specs.Parts.{digits_on}
use Rattle.group_numbers.proofs.digits.Digit.all_on.Given as goal

-- the digits so far and those of what is left are those of all
abbrev pub invariant-loop-i : goal.invariant-loop-i
invariant-loop-i l = l.digits.items ++ digits_on l.dims l.axis (drop l.i l.columns) ≡ digits_on l.dims l.axis l.columns
