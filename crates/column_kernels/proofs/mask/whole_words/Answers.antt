use Rattle.std.proofs.Common.{◌<◌, ℕ, List, [], ◌∷◌, ◌++◌, length, take, sym, ap, ◌∙◌, arith}
use Rattle.std.proofs.lemmas.List.{take_all}
use Rattle.std.specs.Simd.Lanes.{mask_l, zip2}
use Rattle.column_kernels.specs.Masks.{lies_in}
use Rattle.column_kernels.proofs.Chunks.{next_pair, zip2_left}
use Rattle.column_kernels.proofs.mask.whole_words.Goals as goal

pub loop-i-preserved : goal.loop-i-preserved
loop-i-preserved c =
    let f : List ℕ → List ℕ
    → ℕ = λ quantities discounts. mask_l (zip2 (lies_in c.args.quantity c.args.discount) quantities discounts) in
    let ones : List (List ℕ) = c.args.quantities.now in
    let others : List (List ℕ) = c.args.discounts.now in
    let i : ℕ = c.loop-i.i in
    let other : i < length others = omega (arith, c.loop-i-test.true, c.requires.rows) in
    c.in_ok-push.ensures.items ∙ ap (λ (l : List ℕ). l ++ c.block_mask.result ∷ []) c.loop-i.invariant
    ∙ ap (λ (word : ℕ). take i (zip2 f ones others) ++ word ∷ []) c.block_mask.ensures
    ∙ sym (next_pair f ones others i [] [] c.loop-i-test.true other)

pub returns-clause-ok : goal.returns-clause-ok
returns-clause-ok c =
    let f : List ℕ → List ℕ
    → ℕ = λ quantities discounts. mask_l (zip2 (lies_in c.args.quantity c.args.discount) quantities discounts) in
    let words : List ℕ = zip2 f c.args.quantities.now c.args.discounts.now in
    c.loop-i.invariant
    ∙ take_all c.loop-i.i words
    (omega (arith, zip2_left f c.args.quantities.now c.args.discounts.now, c.loop-i-test.false))
