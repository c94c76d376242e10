use Rattle.std.proofs.Common.{arith}
use Rattle.batch_loader.proofs.LineFieldsLemmas.{part-at}
use Rattle.batch_loader.proofs.line_fields.FieldsInPlace.get.Goals as goal

pub returns : goal.returns
returns g c =
    rw c.start.ensures.start (part-at c.args.self.now.line.now c.args.self.now.ends.now c.args.place (omega arith))
