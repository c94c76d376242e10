use Rattle.std.proofs.Common.{◌∙◌, ap, get_or, slice_range, arith}
use Rattle.batch_loader.specs.Numbers.{number_spelled}
use Rattle.batch_loader.proofs.LineFieldsLemmas.{part-at}
use Rattle.batch_loader.proofs.line_fields.FieldsInPlace.number.Goals as goal

pub returns : goal.returns
returns g c =
    c.number_between.ensures
    ∙ ap (λ start. number_spelled c.args.limit
    (slice_range c.args.self.now.line.now start (get_or c.args.self.now.ends.now c.args.place 0)))
    c.start.ensures.start
    ∙ ap (number_spelled c.args.limit)
    (part-at c.args.self.now.line.now c.args.self.now.ends.now c.args.place (omega arith))
