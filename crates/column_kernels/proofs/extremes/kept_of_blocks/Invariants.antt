use Rattle.std.proofs.Common.{◌≡◌, ◌*◌, take}
use Rattle.std.specs.List.{flat_map}
use Rattle.column_kernels.specs.Extremes.{kept_extremes}
use Rattle.column_kernels.specs.Masks.{bits_of, selected_by}
use Rattle.column_kernels.proofs.extremes.kept_of_blocks.Given as goal

abbrev pub invariant-loop-i : goal.invariant-loop-i
invariant-loop-i g l =
    l.kept ≡ kept_extremes
    (selected_by (flat_map (bits_of 32) (take l.i l.words)) (take (32 * l.i) (g.C.WholeColumn.wholes l.column)))
