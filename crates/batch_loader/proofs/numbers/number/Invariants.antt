use Rattle.std.proofs.Common.{◌≡◌, ◌≤◌, drop}
use Rattle.batch_loader.specs.Numbers.{number_spelled}
use Rattle.batch_loader.proofs.NumbersLemmas.{number_from}
use Rattle.batch_loader.proofs.numbers.number.Given as goal

abbrev pub invariant-loop-i : goal.invariant-loop-i
invariant-loop-i l = (number_spelled l.limit l.text ≡ number_from l.limit l.value (drop l.i l.text))
    × (l.value ≤ 18446744073709551615)
