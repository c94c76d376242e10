use Rattle.std.proofs.Common.{◌≡◌, ◌<◌, ◌≤◌, ◌*◌, ℕ, ℤ, List, length, take, get_or, sym, ap, ◌∙◌, arith}
use Rattle.std.specs.List.{flat_map}
use Rattle.column_kernels.specs.Extremes.{kept_extremes}
use Rattle.column_kernels.specs.Masks.{bits_of, selected_by}
use Rattle.column_kernels.proofs.ExtremesLemmas.{kept_block}
use Rattle.column_kernels.proofs.extremes.kept_of_blocks.Goals as goal

pub loop-i-preserved : goal.loop-i-preserved
loop-i-preserved g c =
    let wholes : List ℤ = g.C.WholeColumn.wholes c.args.column.now in
    let words : List ℕ = c.args.words.now in
    let i : ℕ = c.loop-i.i in
    let before : List ℤ = selected_by (flat_map (bits_of 32) (take i words)) (take (32 * i) wholes) in
    let lt : i < length words = c.loop-i-test.true in
    let room : 32 * length words ≤ length wholes = c.requires.rows in
    c.kept_of_word-kept.ensures before c.loop-i.invariant ∙ ap kept_extremes (kept_block words i wholes lt room)
