use Rattle.column_segment.proofs.ExtremesLemmas.{of_profit}
use Rattle.column_segment.proofs.extremes.extremes_of_profit.Goals as goal

pub returns : goal.returns
returns c =
    of_profit c.args.bytes.now c.args.layout.now c.requires.columns c.args.mask.now c.chunks-revenues.result.now
    c.chunks-costs.result.now c.extremes_of_differences.result
    c.chunks-revenues.ensures.value c.chunks-costs.ensures.value c.extremes_of_differences.ensures
