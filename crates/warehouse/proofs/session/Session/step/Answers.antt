use Rattle.std.proofs.Common.{◌≡◌, ◌∙◌, Option, None, Some, ⊎_elim, inl, inr, Err, sym, ap, subst}
use Rattle.cube_model.specs.declared.answer.Answer.{Answer}
use Rattle.cube_model.specs.declared.fault.Fault.{Fault}
use Rattle.object_store.specs.Store as stores
use Rattle.planned_queries.specs.Stepping.{Advances, IsRunning, RunningState}
use Rattle.warehouse.proofs.OnlyReading.{call_reads, reads_alike, store_read}
use Rattle.warehouse.proofs.Cuboids.{represented_agrees}
use Rattle.warehouse.proofs.session.Session.step.Goals as goal
use Rattle.warehouse.proofs.Represented.{reads_loaded}

pub invariant_of-self : goal.invariant_of-self
invariant_of-self g c = record {
  loaded = λ fine k.
      let s = c.args.self.now in
      reads_loaded g.D.Sectors c.advance.result s.store c.advance.new.store s.dims.value s.modes s.root
      c.advance.ensures.reads fine k s.loaded;
}

pub returns-in-None-clause-reads : goal.returns-in-None-clause-reads
returns-in-None-clause-reads g c =
    store_read g.D.Sectors _ (λ fault. None ≡ Some fault) c.args.self.now _
    (sym c.is_broken.ensures.broken ∙ c.if-is_broken.false) c.in-Ok.ensures.reads (λ is. absurd cc, λ is. absurd cc)
    (λ is. cc)

pub returns-in-Some-clause-reads : goal.returns-in-Some-clause-reads
returns-in-Some-clause-reads g c =
    store_read g.D.Sectors _ (λ fault. None ≡ Some fault) c.args.self.now _
    (sym c.is_broken.ensures.broken ∙ c.if-is_broken.false) c.in-Ok.ensures.reads (λ is. absurd cc, λ is. absurd cc)
    (λ is. cc)

pub returns-in-Err-clause-reads : goal.returns-in-Err-clause-reads
returns-in-Err-clause-reads g c =
    let reads = call_reads g.D.Sectors _ c.args.self.now _ (sym c.is_broken.ensures.broken ∙ c.if-is_broken.false)
    c.in-Err.ensures.reads c.in-Err.ensures.causes in
    reads_alike g.D.Sectors c.args.self.now _ _ (λ fault. Some c.in-Err.fault ≡ Some fault)
    (λ is. cc, λ is. cc) (λ is. cc, λ is. cc) reads

pub returns-in-None-clause-steps : goal.returns-in-None-clause-steps
returns-in-None-clause-steps g c w at k started extends is =
    let s = c.args.self.now in
    let word = c.advance.ensures.reads.leaves.word k in
    let agree = represented_agrees (stores.content_of g.D.Sectors s.store) w s.modes
    (s.loaded at.fine word)
    (at.represents word) in
    subst (λ (found : Option Answer). Advances started c.advance.new.self found) c.in-None.is
    (c.in-Ok.ensures.steps k w (at.represents word) (sym agree.root_is) started extends is)

pub returns-in-Some-clause-steps : goal.returns-in-Some-clause-steps
returns-in-Some-clause-steps g c w at k started extends is =
    let s = c.args.self.now in
    let word = c.advance.ensures.reads.leaves.word k in
    let agree = represented_agrees (stores.content_of g.D.Sectors s.store) w s.modes
    (s.loaded at.fine word)
    (at.represents word) in
    subst (λ (found : Option Answer). Advances started c.advance.new.self found) c.in-Some.is
    (c.in-Ok.ensures.steps k w (at.represents word) (sym agree.root_is) started extends is)

pub returns-in-Err-clause-steps : goal.returns-in-Err-clause-steps
returns-in-Err-clause-steps g c w at k started extends is =
    let s = c.args.self.now in
    let word = c.advance.ensures.reads.leaves.word k in
    let agree = represented_agrees (stores.content_of g.D.Sectors s.store) w s.modes
    (s.loaded at.fine word)
    (at.represents word) in (
      subst (λ (running : RunningState). IsRunning running started) (sym c.in-Err.ensures.err) is,
      ⊎_elim (λ memory. inl memory)
          (⊎_elim (λ device. inr device)
          (λ bad. absurd
          (c.in-Err.ensures.refused (ap (λ (f : Fault). Err f) bad) k w (at.represents word) (sym agree.root_is)
          started extends is)))
          c.in-Err.ensures.causes,
    )
