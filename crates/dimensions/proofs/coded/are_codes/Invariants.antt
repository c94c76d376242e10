use Rattle.std.proofs.Common.{◌≡◌, drop}
use Rattle.dictionary.proofs.CodeOrder.{in_order}
use Rattle.dimensions.proofs.coded.are_codes.Given as goal

abbrev pub invariant-loop-i : goal.invariant-loop-i
invariant-loop-i l = in_order l.count 0 l.codes ≡ in_order l.count l.next (drop l.i l.codes)
