use Rattle.std.proofs.Common.{arith, drop, refl}
use Rattle.stored_rows.proofs.PassedTexts.{counted, no_count}
use Rattle.stored_rows.proofs.passing.count_at.Goals as goal

pub returns-in_default-clause-refused : goal.returns-in_default-clause-refused
returns-in_default-clause-refused g c = λ err keeps text rest there begins.
    no_count c.args.most (drop c.args.at text) rest (c.in_default.ensures.none refl keeps text there) begins

pub returns-then-count-most-clause-refused : goal.returns-then-count-most-clause-refused
returns-then-count-most-clause-refused g c = λ err keeps text rest there begins.
    absurd (omega (
      arith,
      (counted (g.S.Source.texts c.args.source.now c.args.id) text rest there c.args.at c.read_part.new.to
          (c.in_ok-read_part.ensures.bytes keeps) c.args.most c.from_le_bytes-count.result c.in-Some.from c.requires.few
          c.read_part.auto.to c.from_le_bytes-count.ensures c.in-Some.ensures.place begins).0,
      c.if-count-most.true,
    ))

pub returns-clause-found : goal.returns-clause-found
returns-clause-found g c = λ keeps text rest there begins.
    (counted (g.S.Source.texts c.args.source.now c.args.id) text rest there c.args.at c.read_part.new.to
    (c.in_ok-read_part.ensures.bytes keeps) c.args.most c.from_le_bytes-count.result c.in-Some.from c.requires.few
    c.read_part.auto.to c.from_le_bytes-count.ensures c.in-Some.ensures.place begins).1
