use Rattle.std.proofs.Common.{◌∙◌, Err, ap, sym}
use Rattle.cube_model.specs.declared.fault.Fault.{Fault}
use Rattle.object_store.specs.Store as stores
use Rattle.stored_rows.proofs.CallerLemmas.{only_memory}
use Rattle.warehouse.proofs.OnlyReading.{call_reads}
use Rattle.warehouse.proofs.Cuboids.{represented_agrees}
use Rattle.warehouse.proofs.session.Session.rows_of_batch.Goals as goal

pub returns-in-Ok-clause-reads : goal.returns-in-Ok-clause-reads
returns-in-Ok-clause-reads g c =
    call_reads g.D.Sectors _ c.args.self.now _ (sym c.is_broken.ensures.broken ∙ c.if-is_broken.false)
    c.in-Ok.ensures.reads tt

pub returns-in-Err-clause-reads : goal.returns-in-Err-clause-reads
returns-in-Err-clause-reads g c =
    call_reads g.D.Sectors _ c.args.self.now _ (sym c.is_broken.ensures.broken ∙ c.if-is_broken.false)
    c.in-Err.ensures.reads c.in-Err.ensures.causes

pub returns-in-Ok-clause-rows : goal.returns-in-Ok-clause-rows
returns-in-Ok-clause-rows g c w at k =
    let s = c.args.self.now in
    let word = c.read_numbered.ensures.reads.leaves.word in
    let agree =
    represented_agrees (stores.content_of g.D.Sectors s.store) w s.modes (s.loaded at.fine (word k))
    (at.represents (word k)) in
    c.in-Ok.ensures.rows k w (at.represents (word k)) (sym agree.root_is)

pub returns-in-Err-clause-refused : goal.returns-in-Err-clause-refused
returns-in-Err-clause-refused g c other w at k =
    let s = c.args.self.now in
    let word = c.read_numbered.ensures.reads.leaves.word in
    let agree =
    represented_agrees (stores.content_of g.D.Sectors s.store) w s.modes (s.loaded at.fine (word k))
    (at.represents (word k)) in
    only_memory c.in-Err.fault c.in-Err.ensures.causes other
    (λ is. c.in-Err.ensures.refused (ap (λ (f : Fault). Err f) is) k w (at.represents (word k)) (sym agree.root_is))
