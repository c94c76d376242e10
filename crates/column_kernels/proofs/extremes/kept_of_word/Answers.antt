use Rattle.std.proofs.Common.{◌≡◌, ◌<◌, ◌+◌, ◌==◌, ℕ, ℤ, pos, Bool, List, length, drop, get_or, cond, sym, ap, ◌∙◌}
use Rattle.std.proofs.Common.{arith, rules, append-nil, FitsSigned}
use Rattle.std.proofs.lemmas.List.{length-drop, get_or-drop}
use Rattle.std.proofs.lemmas.Int.{to_z-of_z}
use Rattle.std.specs.Int.{bit_at, w128}
use Rattle.column_kernels.specs.declared.extremes.Extremes.{Extremes}
use Rattle.column_kernels.specs.Extremes.{kept_extremes, kept_with}
use Rattle.column_kernels.specs.Masks.{bits_of}
use Rattle.column_kernels.proofs.ExtremesLemmas.{kept_row}
use Rattle.column_kernels.proofs.extremes.kept_of_word.Goals as goal

pub loop-i-init : goal.loop-i-init
unfolding bits_of
loop-i-init g c = λ before is. is ∙ ap kept_extremes (sym (append-nil before))

pub loop-i-preserved : goal.loop-i-preserved
loop-i-preserved g c = λ before is.
    let wholes : List ℤ = g.C.WholeColumn.wholes c.args.column.now in
    let after : List ℤ = drop c.args.first wholes in
    let i : ℕ = c.loop-i.i in
    let word : ℕ = c.args.word in
    let kept : Extremes = c.loop-i.kept in
    let lt : i < length after = omega (arith, length-drop c.args.first wholes, c.requires.rows, c.loop-i-test.true) in
    let number : c.whole.result ≡ get_or after i (pos 0) = c.whole.ensures.value
    ∙ sym (get_or-drop c.args.first wholes i (pos 0)) in
    let fits : FitsSigned w128 c.whole.result = record { sfits = c.whole.type_inv } in
    c.with_if-kept.ensures
    ∙ ap (λ (z : ℤ). cond c.is_set.result (kept_with kept z) kept) (to_z-of_z w128 c.whole.result fits)
    ∙ ap (λ (b : Bool). cond b (kept_with kept c.whole.result) kept) c.is_set.ensures
    ∙ kept_row before word i after kept c.whole.result lt fits number (c.loop-i.invariant before is)
