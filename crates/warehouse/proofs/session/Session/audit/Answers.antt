use Rattle.std.proofs.Common.{⊎_elim, Err, sym, ◌∙◌, ap}
use Rattle.object_store.specs.Store as stores
use Rattle.warehouse.proofs.Cuboids.{laid_at, members_are, laid_agrees}
use Rattle.warehouse.proofs.OnlyReading.{call_reads}
use Rattle.stored_cuboids.proofs.Represented.{kept_cuboids_are_sound}
use Rattle.warehouse.proofs.session.Session.audit.Goals as goal

pub returns-in-Ok-clause-reads : goal.returns-in-Ok-clause-reads
returns-in-Ok-clause-reads g c =
    call_reads g.D.Sectors _ c.args.self.now _ (sym c.is_broken.ensures.broken ∙ c.if-is_broken.false)
    c.in-Ok.ensures.reads tt

pub returns-in-Err-clause-reads : goal.returns-in-Err-clause-reads
returns-in-Err-clause-reads g c =
    call_reads g.D.Sectors _ c.args.self.now _ (sym c.is_broken.ensures.broken ∙ c.if-is_broken.false)
    c.in-Err.ensures.reads c.in-Err.ensures.causes

pub returns-in-Ok-clause-answer : goal.returns-in-Ok-clause-answer
returns-in-Ok-clause-answer g c w at k =
    let s = c.args.self.now in
    let word = c.audited.ensures.reads.leaves.word in
    let laid = at.laid (word k) in
    let agree = laid_agrees (stores.content_of g.D.Sectors s.store) w s.modes
    (s.loaded at.fine (word k))
    laid in
    c.in-Ok.ensures.answer k w laid (sym agree.root_is)
    (members_are g.D.Sectors w s _ c.deref.ensures at.fine (word k) laid)

pub returns-in-Ok-clause-yes : goal.returns-in-Ok-clause-yes
returns-in-Ok-clause-yes g c w at k =
    let s = c.args.self.now in
    let content = stores.content_of g.D.Sectors s.store in
    let word = c.audited.ensures.reads.leaves.word in
    let laid = (laid_at g.D.Sectors w s at).laid (word k) in
    let agree = laid_agrees content w s.modes (s.loaded at.fine (word k)) laid in
    (c.in-Ok.ensures.answer k w laid (sym agree.root_is)
    (members_are g.D.Sectors w s _ c.deref.ensures at.fine (word k) laid)).1
    (kept_cuboids_are_sound content w (at.represents (word k)))

pub returns-in-Err-clause-refused : goal.returns-in-Err-clause-refused
returns-in-Err-clause-refused g c cause w at k =
    let s = c.args.self.now in
    let word = c.audited.ensures.reads.leaves.word in
    let laid = at.laid (word k) in
    let agree = laid_agrees (stores.content_of g.D.Sectors s.store) w s.modes
    (s.loaded at.fine (word k))
    laid in
    ⊎_elim (λ memory. memory)
    (⊎_elim (λ device. absurd (cause device))
    (λ bad. absurd
    (c.in-Err.ensures.refused (ap (λ f. Err f) bad) k w laid (sym agree.root_is)
    (members_are g.D.Sectors w s _ c.deref.ensures at.fine (word k) laid))))
    c.in-Err.ensures.causes
