use Rattle.std.proofs.Common.{◌≡◌, ◌*◌, ◌≤◌, Bool, take}
use Rattle.std.specs.List.{flat_map, count_by}
use Rattle.column_kernels.specs.Masks.{bits_of}
use Rattle.column_kernels.proofs.mask.ones.Given as goal

abbrev pub invariant-loop-i : goal.invariant-loop-i
invariant-loop-i l =
    (l.count ≡ count_by (λ (b : Bool). b) (flat_map (bits_of 32) (take l.i l.words))) × (l.count ≤ 32 * l.i)
