use Rattle.std.proofs.Common.{◌≡◌, ◌++◌, ℤ, List, take, drop}
use Rattle.column_kernels.specs.Extremes.{kept_extremes}
use Rattle.column_kernels.specs.Masks.{bits_of, selected_by}
use Rattle.column_kernels.proofs.extremes.kept_of_word.Given as goal

abbrev pub invariant-loop-i : goal.invariant-loop-i
invariant-loop-i g l =
    (before : List ℤ) → l.fn.before ≡ kept_extremes before
    → l.kept ≡ kept_extremes
    (before ++ selected_by (bits_of l.i l.word) (take l.i (drop l.first (g.C.WholeColumn.wholes l.column))))
