use Rattle.std.proofs.Common.{◌≡◌, ◌+◌, ℕ, Bool, List, take, ap, ◌∙◌, arith}
use Rattle.std.proofs.lemmas.List.{take_all}
use Rattle.std.specs.Simd.Lanes.{mask_l, zip2}
use Rattle.column_kernels.specs.Masks.{lies_in}
use Rattle.column_kernels.proofs.Blocks.{rest_next, take_small}
use Rattle.column_kernels.proofs.Chunks.{zip2_left}
use Rattle.column_kernels.proofs.mask.rest_mask.Goals as goal

pub overflow_add-word : goal.overflow_add-word
overflow_add-word c =
    let f : ℕ → ℕ → Bool = lies_in c.args.quantity c.args.discount in
    let marks : List Bool = zip2 f c.args.quantities.now c.args.discounts.now in
    let next : c.loop-i.word + c.bit-word.result ≡ mask_l (take (c.loop-i.i + 1) marks)
    = rest_next f c.args.quantities.now c.args.discounts.now c.loop-i.i c.loop-i.word c.bit-word.result
    c.lies_within.result c.loop-i-test.true c.requires.rows c.loop-i.invariant c.lies_within.ensures
    c.bit-word.ensures in
    record {
      fits =
          omega (arith, next, take_small marks (c.loop-i.i + 1) (omega (arith, c.loop-i-test.true, c.requires.few)));
    }

pub loop-i-preserved : goal.loop-i-preserved
loop-i-preserved c =
    rest_next (lies_in c.args.quantity c.args.discount) c.args.quantities.now c.args.discounts.now c.loop-i.i
    c.loop-i.word c.bit-word.result c.lies_within.result c.loop-i-test.true c.requires.rows c.loop-i.invariant
    c.lies_within.ensures c.bit-word.ensures

pub returns : goal.returns
returns c =
    let f : ℕ → ℕ → Bool = lies_in c.args.quantity c.args.discount in
    let marks : List Bool = zip2 f c.args.quantities.now c.args.discounts.now in
    c.loop-i.invariant
    ∙ ap mask_l
    (take_all c.loop-i.i marks
    (omega (arith, zip2_left f c.args.quantities.now c.args.discounts.now, c.loop-i-test.false)))
