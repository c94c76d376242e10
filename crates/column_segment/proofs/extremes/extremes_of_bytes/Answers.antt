use Rattle.column_segment.proofs.ExtremesLemmas.{of_bytes}
use Rattle.column_segment.proofs.extremes.extremes_of_bytes.Goals as goal

pub returns : goal.returns
returns c =
    of_bytes c.args.bytes.now c.args.layout.now c.requires.columns c.args.mask.now c.args.column.name c.args.column.wide
    c.byte_part.result.now
    c.extremes_of_bytes.result c.byte_part.ensures.value c.extremes_of_bytes.ensures
