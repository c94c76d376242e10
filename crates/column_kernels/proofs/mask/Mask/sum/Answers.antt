use Rattle.std.proofs.Common.{◌≡◌, ◌+◌, ◌*◌, ℕ, Bool, List, ◌++◌, length, take, drop, sym, ap, ◌∙◌, arith}
use Rattle.std.specs.List.{flat_map, sum}
use Rattle.column_kernels.specs.Masks.{bits_of, selected_by}
use Rattle.column_kernels.proofs.Blocks.{view_long, whole_sum}
use Rattle.column_kernels.proofs.mask.Mask.sum.Goals as goal

pub sum_of_blocks-requires-clause-rows : goal.sum_of_blocks-requires-clause-rows
sum_of_blocks-requires-clause-rows g c =
    let words : List ℕ = c.self.inside.words.items in
    let n : ℕ = c.self.inside.rest_rows in
    let rows : length c.args.self.now ≡ 32 * length words + n = ap (λ (l : List Bool). length l) (sym c.self.view_is)
    ∙ view_long words c.self.inside.rest n in
    let same : length c.deref.result.now ≡ length words = ap (λ (l : List ℕ). length l) c.deref.ensures.value in
    omega (arith, same, rows, c.requires.rows)

pub sum_of_rest-requires-clause-rows : goal.sum_of_rest-requires-clause-rows
sum_of_rest-requires-clause-rows g c =
    let words : List ℕ = c.self.inside.words.items in
    let n : ℕ = c.self.inside.rest_rows in
    let rows : length c.args.self.now ≡ 32 * length words + n = ap (λ (l : List Bool). length l) (sym c.self.view_is)
    ∙ view_long words c.self.inside.rest n in
    let same : length c.deref.result.now ≡ length words = ap (λ (l : List ℕ). length l) c.deref.ensures.value in
    omega (arith, same, c.deref.ensures.len, c.len.ensures, rows, c.requires.rows)

pub returns-clause-value : goal.returns-clause-value
returns-clause-value g c =
    let words : List ℕ = c.self.inside.words.items in
    let rest : ℕ = c.self.inside.rest in
    let n : ℕ = c.self.inside.rest_rows in
    let numbers : List ℕ = g.C.Column.numbers c.args.column.now in
    let rows : length c.args.self.now ≡ 32 * length words + n = ap (λ (l : List Bool). length l) (sym c.self.view_is)
    ∙ view_long words rest n in
    let same : length c.deref.result.now ≡ length words = ap (λ (l : List ℕ). length l) c.deref.ensures.value in
    let count : c.len.result ≡ length words = omega (arith, same, c.deref.ensures.len, c.len.ensures) in
    let room : length numbers ≡ 32 * length words + n = omega (arith, rows, c.requires.rows) in
    let blocks : c.sum_of_blocks.result
    ≡ sum (selected_by (flat_map (bits_of 32) words) (take (32 * length words) numbers))
    = c.sum_of_blocks.ensures.value
    ∙ ap (λ (l : List ℕ). sum (selected_by (flat_map (bits_of 32) l) (take (32 * length l) numbers)))
    c.deref.ensures.value in
    let after : c.sum_of_rest.result ≡ sum (selected_by (bits_of n rest) (drop (32 * length words) numbers))
    = c.sum_of_rest.ensures.value ∙ ap (λ (m : ℕ). sum (selected_by (bits_of n rest) (drop (32 * m) numbers))) count in
    let whole : c.sum_of_blocks.result + c.sum_of_rest.result
    ≡ sum (selected_by (flat_map (bits_of 32) words ++ bits_of n rest) numbers)
    = omega (arith, blocks, after, whole_sum words rest n numbers room) in
    whole ∙ ap (λ (l : List Bool). sum (selected_by l numbers)) c.self.view_is
