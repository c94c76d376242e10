use Rattle.std.proofs.Common.{◌≡◌, ◌*◌, ◌≤◌, ◌^◌, take}
use Rattle.std.specs.List.{flat_map, sum}
use Rattle.column_kernels.specs.Masks.{bits_of, selected_by}
use Rattle.column_kernels.proofs.mask.sum_of_blocks.Given as goal

abbrev pub invariant-loop-i : goal.invariant-loop-i
invariant-loop-i g l =
    (l.sum ≡ sum
    (selected_by (flat_map (bits_of 32) (take l.i l.words)) (take (32 * l.i) (g.C.Column.numbers l.column))))
    × (l.sum ≤ l.i * 2 ^ 97)
