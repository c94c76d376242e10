use Rattle.std.proofs.Common.{◌≡◌, ◌<◌, ◌==◌, ℕ, Bool, List, ◌*◌, length, drop, get_or, cond, refl, sym, ap, ◌∙◌, arith}
use Rattle.std.proofs.lemmas.List.{length-drop, get_or-drop}
use Rattle.std.specs.Int.{bit_at}
use Rattle.column_kernels.specs.Masks.{bits_of}
use Rattle.column_kernels.proofs.Blocks.{more_rest}
use Rattle.column_kernels.proofs.mask.sum_of_rest.Goals as goal

pub loop-i-init : goal.loop-i-init
unfolding bits_of
loop-i-init g c = (refl, omega arith)

pub loop-i-preserved : goal.loop-i-preserved
loop-i-preserved g c =
    let numbers : List ℕ = g.C.Column.numbers c.args.column.now in
    let first : ℕ = 32 * c.args.blocks in
    let after : List ℕ = drop first numbers in
    let i : ℕ = c.loop-i.i in
    let word : ℕ = c.args.word in
    let lt : i < length after = omega (arith, length-drop first numbers, c.requires.rows, c.loop-i-test.true) in
    let number : c.number.result ≡ get_or after i 0 = c.number.ensures.value ∙ sym (get_or-drop first numbers i 0) in
    let added : c.number_if-sum.result ≡ cond (bit_at word i == 1) (get_or after i 0) 0
    = c.number_if-sum.ensures.value ∙ ap (λ (b : Bool). cond b c.number.result 0) c.is_set.ensures
    ∙ ap (λ (n : ℕ). cond (bit_at word i == 1) n 0) number in (
      omega (arith, c.loop-i.invariant.0, added, more_rest word i after lt),
      omega (arith, c.loop-i.invariant.1, c.number_if-sum.ensures.small, c.number.ensures.small),
    )
