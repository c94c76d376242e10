use Rattle.std.proofs.Common.{◌∙◌, sym, arith}
use Rattle.dimensions.proofs.CountedKeys.{place_before, place_from}
use Rattle.dimensions.proofs.counted.place_counted.Goals as goal

pub returns-then-key-first : goal.returns-then-key-first
returns-then-key-first c = λ keys counted long. sym long
    ∙ place_before c.args.first c.args.key keys counted c.if-key-first.true

pub returns : goal.returns
returns c = λ keys counted long.
    place_from c.args.first c.args.key keys counted (omega (arith, c.if-key-first.false)) c.min.result
    (omega (arith, long, c.min.ensures)) (omega (arith, c.min.ensures))
    (λ below. omega (arith, long, below, c.min.ensures))
