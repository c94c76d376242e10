use Rattle.column_segment.proofs.ExtremesLemmas.{of_amounts}
use Rattle.column_segment.proofs.extremes.extremes_of_amounts.Goals as goal

pub returns : goal.returns
returns c =
    of_amounts c.args.bytes.now c.args.layout.now c.requires.columns c.args.mask.now c.args.column.name
    c.args.column.wide c.chunks.result.now c.extremes_of_numbers.result c.chunks.ensures.value
    c.extremes_of_numbers.ensures
