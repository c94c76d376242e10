use Rattle.std.proofs.Common.{length, refl, sym, ◌∙◌, ap}
use Rattle.cube_model.specs.declared.rows.DimRows.{DimRows}
use Rattle.planned_queries.specs.ModeAnswers.{moded_answer_as_of}
use Rattle.planned_queries.specs.ModesPlanned.{looks_at_modes}
use Rattle.mode_queries.specs.declared.query.ModeQuery.{ModeQuery}
use Rattle.warehouse.proofs.Asking.{asked_within, check_refuses, counted_at, read_refuses}
use Rattle.warehouse.proofs.Cuboids.{agrees, members_at}
use Rattle.warehouse.proofs.OnlyReading.{call_reads}
use Rattle.warehouse.proofs.session.Session.moded_groups.Goals as goal

pub answer_by_plan-requires-clause-looks : goal.answer_by_plan-requires-clause-looks
answer_by_plan-requires-clause-looks g c = ap looks_at_modes c.in-Ok.ensures.query ∙ c.requires.looks

pub returns-in-Ok-answer_by_plan-clause-reads : goal.returns-in-Ok-answer_by_plan-clause-reads
returns-in-Ok-answer_by_plan-clause-reads g c =
    call_reads g.D.Sectors _ c.args.self.now _ (sym c.is_broken.ensures.broken ∙ c.if-is_broken.false)
    c.in-Ok-answer_by_plan.ensures.reads tt

pub returns-in-Err-answer_by_plan-clause-reads : goal.returns-in-Err-answer_by_plan-clause-reads
returns-in-Err-answer_by_plan-clause-reads g c =
    call_reads g.D.Sectors _ c.args.self.now _ (sym c.is_broken.ensures.broken ∙ c.if-is_broken.false)
    c.in-Err-answer_by_plan.ensures.reads c.in-Err-answer_by_plan.ensures.causes

pub returns-in-Ok-answer_by_plan-clause-answer : goal.returns-in-Ok-answer_by_plan-clause-answer
returns-in-Ok-answer_by_plan-clause-answer g c w at k =
    let s = c.args.self.now in
    let word = c.answer_by_plan.ensures.reads.leaves.word k in
    let agree = agrees g.D.Sectors w s at word in
    let many = counted_at g.D.Sectors w s at word _ c.batches.ensures.value in (
      asked_within _ w c.args.as_of (length c.batches.result.now) many c.in-Ok.ensures.ok,
      c.in-Ok-answer_by_plan.ensures.answer k w (at.represents word) (sym agree.root_is)
          (members_at g.D.Sectors w s at _ refl word)
          ∙ ap (λ (rows : DimRows). moded_answer_as_of c.in-Ok.proper c.args.as_of rows w.batches)
          (sym agree.rows_are)
          ∙ ap (λ (q : ModeQuery). moded_answer_as_of q c.args.as_of w.rows w.batches) c.in-Ok.ensures.query,
    )

pub returns-in-Err-clause-refused : goal.returns-in-Err-clause-refused
returns-in-Err-clause-refused g c =
    check_refuses g.D.Sectors c.args.as_of _ c.args.self.now _ (length c.batches.result.now)
    (λ w at k. counted_at g.D.Sectors w c.args.self.now at k _ c.batches.ensures.value)
    (λ k. k) c.in-Err.fault c.in-Err.ensures.causes

pub returns-in-Ok-answer_by_plan-clause-refused : goal.returns-in-Ok-answer_by_plan-clause-refused
returns-in-Ok-answer_by_plan-clause-refused g c =
    read_refuses g.D.Sectors c.args.as_of _ _ c.args.self.now _ (length c.batches.result.now)
    (λ w at k. counted_at g.D.Sectors w c.args.self.now at k _ c.batches.ensures.value)
    c.answer_by_plan.ensures.reads.leaves.word c.in-Ok.ensures.ok tt (λ w at k bad. absurd cc)

pub returns-in-Err-answer_by_plan-clause-refused : goal.returns-in-Err-answer_by_plan-clause-refused
returns-in-Err-answer_by_plan-clause-refused g c =
    let s = c.args.self.now in
    let word = c.answer_by_plan.ensures.reads.leaves.word in
    read_refuses g.D.Sectors c.args.as_of _ _ s _ (length c.batches.result.now)
    (λ w at k. counted_at g.D.Sectors w c.args.self.now at k _ c.batches.ensures.value)
    word c.in-Ok.ensures.ok c.in-Err-answer_by_plan.ensures.causes
    (λ w at k bad. c.in-Err-answer_by_plan.ensures.refused bad k w (at.represents (word k))
    (sym (agrees g.D.Sectors w s at (word k)).root_is)
    (members_at g.D.Sectors w s at _ refl (word k)))
