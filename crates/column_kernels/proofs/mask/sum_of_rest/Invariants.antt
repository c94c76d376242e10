use Rattle.std.proofs.Common.{◌≡◌, ◌*◌, ◌≤◌, ◌^◌, take, drop}
use Rattle.std.specs.List.{sum}
use Rattle.column_kernels.specs.Masks.{bits_of, selected_by}
use Rattle.column_kernels.proofs.mask.sum_of_rest.Given as goal

abbrev pub invariant-loop-i : goal.invariant-loop-i
invariant-loop-i g l =
    (l.sum ≡ sum (selected_by (bits_of l.i l.word) (take l.i (drop (32 * l.blocks) (g.C.Column.numbers l.column)))))
    × (l.sum ≤ l.i * 2 ^ 97)
