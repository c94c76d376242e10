use Rattle.std.proofs.Common.{◌≡◌, ◌+◌, ◌*◌, ◌++◌, ℕ, ℤ, Bool, List, length, take, drop, sym, ap, ◌∙◌, arith}
use Rattle.std.specs.List.{flat_map}
use Rattle.column_kernels.specs.Extremes.{extremes_of}
use Rattle.column_kernels.specs.Masks.{bits_of, selected_by}
use Rattle.column_kernels.proofs.Blocks.{view_long}
use Rattle.column_kernels.proofs.ExtremesLemmas.{kept_whole}
use Rattle.column_kernels.proofs.extremes.selected_extremes.Goals as goal

pub kept_of_blocks-kept-requires-clause-rows : goal.kept_of_blocks-kept-requires-clause-rows
kept_of_blocks-kept-requires-clause-rows g c =
    let words : List ℕ = c.words-bits.result.0.now in
    let long = ap (λ (l : List Bool). length l) c.words-bits.ensures.bits in
    omega (arith, c.requires.rows, long, view_long words c.words-bits.result.1 c.words-bits.result.2)

pub kept_of_word-requires-clause-rows : goal.kept_of_word-requires-clause-rows
kept_of_word-requires-clause-rows g c =
    let words : List ℕ = c.words-bits.result.0.now in
    let long = ap (λ (l : List Bool). length l) c.words-bits.ensures.bits in
    omega (arith, c.requires.rows, long, view_long words c.words-bits.result.1 c.words-bits.result.2)

pub returns : goal.returns
returns g c =
    let wholes : List ℤ = g.C.WholeColumn.wholes c.args.column.now in
    let words : List ℕ = c.words-bits.result.0.now in
    let rest : ℕ = c.words-bits.result.1 in
    let n : ℕ = c.words-bits.result.2 in
    let blocks : List ℤ = selected_by (flat_map (bits_of 32) words) (take (32 * length words) wholes) in
    let after : List ℤ = selected_by (bits_of n rest) (take n (drop (32 * length words) wholes)) in
    let long = ap (λ (l : List Bool). length l) c.words-bits.ensures.bits in
    let room : length wholes ≡ 32 * length words + n = omega (arith, c.requires.rows, long, view_long words rest n) in
    let all : blocks ++ after ≡ selected_by c.args.mask.now wholes = kept_whole words rest n wholes room
    ∙ ap (λ (l : List Bool). selected_by l wholes) (sym c.words-bits.ensures.bits) in
    c.found.ensures (blocks ++ after) (c.kept_of_word.ensures blocks c.kept_of_blocks-kept.ensures)
    ∙ ap extremes_of all
