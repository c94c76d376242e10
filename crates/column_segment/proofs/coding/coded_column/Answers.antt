use Rattle.column_segment.proofs.CodingLemmas.{codes_read}
use Rattle.column_segment.proofs.coding.coded_column.Goals as goal

pub returns : goal.returns
returns c = λ column are. codes_read column c.args.texts.now c.args.codes.now c.told-codes are
