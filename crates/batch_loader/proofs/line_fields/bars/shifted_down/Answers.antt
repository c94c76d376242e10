use Rattle.std.proofs.Common.{◌%◌, ap, shr-shr}
use Rattle.batch_loader.proofs.line_fields.bars.shifted_down.Goals as goal

pub returns : goal.returns
returns c = λ k. ap (λ number. number % 2) (shr-shr c.args.bars c.args.by k)
