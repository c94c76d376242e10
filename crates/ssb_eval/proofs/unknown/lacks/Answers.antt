use Rattle.batch_admission.proofs.FoundLaws.{lacks-at_end}
use Rattle.ssb_eval.proofs.unknown.lacks.Goals as goal

pub returns : goal.returns
returns c = rw (c.row_index.ensures, c.row_count.ensures.count) (lacks-at_end c.args.dims.now c.args.axis c.args.key)
