use Rattle.column_segment.proofs.ExtremesLemmas.{of_discounted}
use Rattle.column_segment.proofs.extremes.extremes_of_discounted.Goals as goal

pub returns : goal.returns
returns c =
    of_discounted c.args.bytes.now c.args.layout.now c.requires.columns c.args.mask.now
    c.chunks-prices.result.now c.byte_part-discounts.result.now c.extremes_of_products.result
    c.chunks-prices.ensures.value c.byte_part-discounts.ensures.value c.extremes_of_products.ensures
