use Rattle.std.proofs.Common.{length, refl, subst, sym, ◌∙◌}
use Rattle.cube_model.specs.declared.query.Query.{Query}
use Rattle.planned_queries.specs.Stepping.{IsRunning, Started, Starts}
use Rattle.warehouse.proofs.Asking.{asked_within, check_refuses, counted_at, read_refuses}
use Rattle.warehouse.proofs.Cuboids.{agrees, members_at}
use Rattle.warehouse.proofs.OnlyReading.{call_reads}
use Rattle.warehouse.proofs.session.Session.start.Goals as goal

pub returns-in-Ok-begin-clause-reads : goal.returns-in-Ok-begin-clause-reads
returns-in-Ok-begin-clause-reads g c =
    call_reads g.D.Sectors _ c.args.self.now _ (sym c.is_broken.ensures.broken ∙ c.if-is_broken.false)
    c.in-Ok-begin.ensures.reads tt

pub returns-in-Err-begin-clause-reads : goal.returns-in-Err-begin-clause-reads
returns-in-Err-begin-clause-reads g c =
    call_reads g.D.Sectors _ c.args.self.now _ (sym c.is_broken.ensures.broken ∙ c.if-is_broken.false)
    c.in-Err-begin.ensures.reads c.in-Err-begin.ensures.causes

pub returns-in-Ok-begin-clause-started : goal.returns-in-Ok-begin-clause-started
returns-in-Ok-begin-clause-started g c w at k =
    let s = c.args.self.now in
    let word = c.begin.ensures.reads.leaves.word k in
    let agree = agrees g.D.Sectors w s at word in
    let many = counted_at g.D.Sectors w s at word _ c.batches.ensures.value in (
      asked_within _ w c.args.as_of (length c.batches.result.now) many c.in-Ok.ensures.ok,
      subst (λ (q : Query). (t : Started) × Starts w c.args.as_of q t × IsRunning c.in-Ok-begin.running t)
          c.in-Ok.ensures.query
          (c.in-Ok-begin.ensures.begun k w (at.represents word) (sym agree.root_is)
          (members_at g.D.Sectors w s at _ refl word)),
    )

pub returns-in-Err-clause-refused : goal.returns-in-Err-clause-refused
returns-in-Err-clause-refused g c =
    check_refuses g.D.Sectors c.args.as_of _ c.args.self.now _ (length c.batches.result.now)
    (λ w at k. counted_at g.D.Sectors w c.args.self.now at k _ c.batches.ensures.value)
    (λ k. k) c.in-Err.fault c.in-Err.ensures.causes

pub returns-in-Ok-begin-clause-refused : goal.returns-in-Ok-begin-clause-refused
returns-in-Ok-begin-clause-refused g c =
    read_refuses g.D.Sectors c.args.as_of _ _ c.args.self.now _ (length c.batches.result.now)
    (λ w at k. counted_at g.D.Sectors w c.args.self.now at k _ c.batches.ensures.value)
    c.begin.ensures.reads.leaves.word c.in-Ok.ensures.ok tt (λ w at k bad. absurd cc)

pub returns-in-Err-begin-clause-refused : goal.returns-in-Err-begin-clause-refused
returns-in-Err-begin-clause-refused g c =
    let s = c.args.self.now in
    let word = c.begin.ensures.reads.leaves.word in
    read_refuses g.D.Sectors c.args.as_of _ _ s _ (length c.batches.result.now)
    (λ w at k. counted_at g.D.Sectors w c.args.self.now at k _ c.batches.ensures.value)
    word c.in-Ok.ensures.ok c.in-Err-begin.ensures.causes
    (λ w at k bad. c.in-Err-begin.ensures.refused bad k w (at.represents (word k))
    (sym (agrees g.D.Sectors w s at (word k)).root_is)
    (members_at g.D.Sectors w s at _ refl (word k)))
