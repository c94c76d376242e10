use Rattle.std.proofs.Common.{◌≡◌, ◌<◌, ◌≤◌, ◌==◌, ◌+◌, ◌-◌, ◌*◌, ◌/◌, ◌%◌, ℕ, Bool, Some, List, ◌++◌, length}
use Rattle.std.proofs.Common.{slice_get, sym, ap, ◌∙◌, arith}
use Rattle.std.proofs.lemmas.Option.{slice_get_past}
use Rattle.std.specs.Int.{bit_at}
use Rattle.std.specs.List.{flat_map}
use Rattle.column_kernels.specs.Masks.{bits_of}
use Rattle.column_kernels.proofs.Blocks.{get_block, get_rest, view_long}
use Rattle.column_kernels.proofs.mask.Mask.get.Goals as goal

pub returns-then-block-len : goal.returns-then-block-len
returns-then-block-len c =
    let words : List ℕ = c.self.inside.words.items in
    let tail : List Bool = bits_of c.self.inside.rest_rows c.self.inside.rest in
    let row : ℕ = c.args.row in
    let lt : row / 32 < length words = omega (arith, c.if-block-len.true, c.len.ensures) in
    let in_block : row % 32 < 32 = omega arith in
    let at : 32 * (row / 32) + row % 32 ≡ row = omega arith in
    ap (λ (b : Bool). Some b) (c.is_set.ensures ∙ ap (λ (word : ℕ). bit_at word (row % 32) == 1) c.index.ensures)
    ∙ sym (get_block words (row / 32) (row % 32) c.index.result.now tail lt in_block)
    ∙ ap (slice_get (flat_map (bits_of 32) words ++ tail)) at ∙ ap (λ (l : List Bool). slice_get l row) c.self.view_is

pub returns-then-place-self : goal.returns-then-place-self
returns-then-place-self c =
    let words : List ℕ = c.self.inside.words.items in
    let n : ℕ = c.self.inside.rest_rows in
    let rows : length c.args.self.now ≡ 32 * length words + n = ap (λ (l : List Bool). length l) (sym c.self.view_is)
    ∙ view_long words c.self.inside.rest n in
    let past : length c.args.self.now ≤ c.args.row
    = omega (arith, rows, c.if-place-self.true, c.len-2.ensures, c.if-block-len.false, c.len.ensures) in
    sym (slice_get_past c.args.self.now c.args.row past)

pub returns : goal.returns
returns c =
    let words : List ℕ = c.self.inside.words.items in
    let rest : ℕ = c.self.inside.rest in
    let n : ℕ = c.self.inside.rest_rows in
    let row : ℕ = c.args.row in
    let place : ℕ = row - 32 * c.len-2.result in
    let at : 32 * length words + place ≡ row = omega (arith, c.len-2.ensures, c.if-block-len.false, c.len.ensures) in
    ap (λ (b : Bool). Some b) c.is_set-2.ensures ∙ sym (get_rest words rest n place c.if-place-self.false)
    ∙ ap (slice_get (flat_map (bits_of 32) words ++ bits_of n rest)) at
    ∙ ap (λ (l : List Bool). slice_get l row) c.self.view_is
