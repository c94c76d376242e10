use Rattle.std.proofs.Common.{inr, None}
use Rattle.std.proofs.lemmas.Result.{IfErr-weaker, IfOk-weaker}
use Rattle.warehouse.specs.Found.{MayRepresent}
use Rattle.c_library.proofs.AnsweringLemmas.{over_sectors}
use Rattle.c_library.proofs.answering.answer.Goals as goal

pub returns-clause-answers : goal.returns-clause-answers
returns-clause-answers c = IfOk-weaker c.answer_on.result _ _
    (λ text has facts holds. has (λ d. tt) facts
    (over_sectors c.args.image.now _ (MayRepresent facts None) c.in-Some.ensures.sectors holds))
    c.answer_on.ensures.answers

pub returns-clause-refused : goal.returns-clause-refused
returns-clause-refused c = IfErr-weaker c.answer_on.result _ _
    (λ fault has facts holds. inr
    (has (λ d. tt) facts
    (over_sectors c.args.image.now _ (MayRepresent facts None) c.in-Some.ensures.sectors holds)))
    c.answer_on.ensures.refused
