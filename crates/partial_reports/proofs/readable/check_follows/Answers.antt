use Rattle.std.proofs.Common.{◌∙◌, subst, ◌++◌, ◌∷◌, [], List, None}
use Rattle.cube_model.specs.declared.answer.Line.{Line}
use Rattle.cube_model.specs.Ascending.{IsAscending}
use Rattle.cube_model.specs.Orders.{answer_cmp}
use Rattle.partial_reports.proofs.Rising.{last_less}
use Rattle.partial_reports.proofs.readable.check_follows.Goals as goal

pub returns-in_default-cmp-clause-refused : goal.returns-in_default-cmp-clause-refused
returns-in_default-cmp-clause-refused c = λ rise.
    c.in_default-cmp.not-Less
    (c.cmp.ensures
    ∙ last_less c.in-Some.field-0-1.now c.in-Some.last.now c.args.line.now
    (subst (λ (lines : List Line). IsAscending (answer_cmp None) (lines ++ c.args.line.now ∷ []))
    c.in-Some.ensures.cases.0 rise))
