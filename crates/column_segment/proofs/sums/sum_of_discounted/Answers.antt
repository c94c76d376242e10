use Rattle.std.proofs.Common.{◌∙◌}
use Rattle.std.proofs.lemmas.Int.{to_z-of_z}
use Rattle.std.specs.Int.{w128}
use Rattle.column_segment.proofs.Totals.{discounted_sum}
use Rattle.column_segment.proofs.sums.sum_of_discounted.Goals as goal

pub whole-requires : goal.whole-requires
whole-requires c =
    (discounted_sum c.args.bytes.now c.args.layout.now c.requires.columns c.args.mask.now
    (λ k. (c.type_inv.bytes k).fits) c.chunks-prices.result.now c.byte_part-discounts.result.now
    c.sum_of_products.result
    c.chunks-prices.ensures.value c.byte_part-discounts.ensures.value c.sum_of_products.ensures).0

pub returns : goal.returns
returns c =
    to_z-of_z w128 c.whole.result (record { sfits = c.whole.type_inv }) ∙ c.whole.ensures
    ∙ (discounted_sum c.args.bytes.now c.args.layout.now c.requires.columns c.args.mask.now
    (λ k. (c.type_inv.bytes k).fits) c.chunks-prices.result.now c.byte_part-discounts.result.now
    c.sum_of_products.result
    c.chunks-prices.ensures.value c.byte_part-discounts.ensures.value c.sum_of_products.ensures).1
