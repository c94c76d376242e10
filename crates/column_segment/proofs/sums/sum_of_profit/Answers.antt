use Rattle.std.proofs.Common.{◌∙◌}
use Rattle.std.proofs.lemmas.Int.{to_z-of_z}
use Rattle.std.specs.Int.{w128}
use Rattle.column_segment.proofs.Totals.{profit_sum}
use Rattle.column_segment.proofs.sums.sum_of_profit.Goals as goal

pub returns : goal.returns
returns c =
    to_z-of_z w128 c.sum_of_differences.result (record { sfits = c.sum_of_differences.type_inv })
    ∙ profit_sum c.args.bytes.now c.args.layout.now c.requires.columns c.args.mask.now
    c.chunks-revenues.result.now c.chunks-costs.result.now c.sum_of_differences.result
    c.chunks-revenues.ensures.value c.chunks-costs.ensures.value c.sum_of_differences.ensures
