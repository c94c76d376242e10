use Rattle.std.proofs.Common.{◌≡◌, map, drop}
use Rattle.std.specs.Int.{from_le_bytes, w16}
use Rattle.dictionary.proofs.CodeOrder.{in_order}
use Rattle.dictionary.proofs.codes.are_codes.Given as goal

abbrev pub invariant-loop-i : goal.invariant-loop-i
invariant-loop-i l = in_order l.count 0 (map (from_le_bytes w16) l.codes)
    ≡ in_order l.count l.next (map (from_le_bytes w16) (drop l.i l.codes))
