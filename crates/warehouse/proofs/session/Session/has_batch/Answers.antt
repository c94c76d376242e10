use Rattle.std.proofs.Common.{◌∙◌, ⊎_elim, inl, inr, sym}
use Rattle.object_store.specs.Store as stores
use Rattle.warehouse.proofs.OnlyReading.{call_reads}
use Rattle.warehouse.proofs.Cuboids.{represented_agrees}
use Rattle.warehouse.proofs.session.Session.has_batch.Goals as goal

pub returns-in-Ok-clause-reads : goal.returns-in-Ok-clause-reads
returns-in-Ok-clause-reads g c =
    call_reads g.D.Sectors _ c.args.self.now _ (sym c.is_broken.ensures.broken ∙ c.if-is_broken.false)
    c.in-Ok.ensures.reads tt

pub returns-in-Err-clause-reads : goal.returns-in-Err-clause-reads
returns-in-Err-clause-reads g c =
    call_reads g.D.Sectors _ c.args.self.now _ (sym c.is_broken.ensures.broken ∙ c.if-is_broken.false)
    c.in-Err.ensures.reads (⊎_elim (λ memory. inl memory) (λ device. inr (inl device)) c.in-Err.ensures.causes)

pub returns-in-Ok-clause-answer : goal.returns-in-Ok-clause-answer
returns-in-Ok-clause-answer g c w rows at grown k =
    let s = c.args.self.now in
    let word = c.is_stored.ensures.reads.leaves.word in
    let agree =
    represented_agrees (stores.content_of g.D.Sectors s.store) w s.modes (s.loaded at.fine (word k))
    (at.represents (word k)) in
    c.in-Ok.ensures.answer k w s.dims.value rows (at.represents (word k)) (sym agree.root_is) grown
