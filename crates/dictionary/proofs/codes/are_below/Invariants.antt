use Rattle.std.proofs.Common.{◌≡◌, nat_lt, take}
use Rattle.std.specs.List.{list_all}
use Rattle.std.specs.Int.{from_le_bytes, w16}
use Rattle.dictionary.proofs.codes.are_below.Given as goal

abbrev pub invariant-loop-bytes : goal.invariant-loop-bytes
invariant-loop-bytes l =
    l.fine ≡ list_all (λ bytes. nat_lt (from_le_bytes w16 bytes) l.count) (take l.bytes-index l.codes)
