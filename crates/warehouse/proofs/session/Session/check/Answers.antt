use Rattle.std.proofs.Common.{◌≡◌, ⊎_elim, Err, Option, Some, None, IsTrue, is_some, refl, sym, ◌∙◌, ap, subst, false}
use Rattle.object_store.specs.Store as stores
use Rattle.cube_model.specs.declared.rows.DimRows.{DimRows}
use Rattle.warehouse_check.specs.Checked.{HasBatches}
use Rattle.warehouse.proofs.OnlyReading.{call_reads}
use Rattle.warehouse_objects.proofs.CallerLemmas.{laid_of}
use Rattle.warehouse.proofs.Cuboids.{members_are, members_at, laid_agrees, represented_agrees}
use Rattle.warehouse.proofs.session.Session.check.Goals as goal

pub returns-in-Ok-clause-reads : goal.returns-in-Ok-clause-reads
returns-in-Ok-clause-reads g c =
    call_reads g.D.Sectors _ c.args.self.now _ (sym c.is_broken.ensures.broken ∙ c.if-is_broken.false)
    c.in-Ok.ensures.reads tt

pub returns-in-Err-clause-reads : goal.returns-in-Err-clause-reads
returns-in-Err-clause-reads g c =
    call_reads g.D.Sectors _ c.args.self.now _ (sym c.is_broken.ensures.broken ∙ c.if-is_broken.false)
    c.in-Err.ensures.reads c.in-Err.ensures.causes

pub returns-in-Ok-clause-sound : goal.returns-in-Ok-clause-sound
returns-in-Ok-clause-sound g c is k =
    let s = c.args.self.now in
    let content = stores.content_of g.D.Sectors s.store in
    let word = c.checked.ensures.reads.leaves.word in
    let fine : stores.has_failed s.store ≡ false = sym c.is_broken.ensures.broken ∙ c.if-is_broken.false in record {
      rows = s.dims.value;
      modes = s.modes;
      root = s.root;
      loaded = s.loaded fine (word k);
      objects = c.in-Ok.ensures.objects is k;
      has = subst (λ (rows : DimRows). HasBatches content rows s.root) c.deref.ensures (c.in-Ok.ensures.batches is k);
    }

pub returns-in-Ok-clause-cuboids : goal.returns-in-Ok-clause-cuboids
returns-in-Ok-clause-cuboids g c is w at k =
    let s = c.args.self.now in
    let word = c.checked.ensures.reads.leaves.word in
    let laid = at.laid (word k) in
    let agree = laid_agrees (stores.content_of g.D.Sectors s.store) w s.modes
    (s.loaded at.fine (word k))
    laid in
    c.in-Ok.ensures.cuboids is k w laid (sym agree.root_is)
    (members_are g.D.Sectors w s _ c.deref.ensures at.fine (word k) laid)

pub returns-in-Ok-clause-found : goal.returns-in-Ok-clause-found
returns-in-Ok-clause-found g c is k w represents =
    let s = c.args.self.now in
    let word = c.checked.ensures.reads.leaves.word in
    let fine : stores.has_failed s.store ≡ false = sym c.is_broken.ensures.broken ∙ c.if-is_broken.false in
    let agree = represented_agrees (stores.content_of g.D.Sectors s.store) w s.modes
    (s.loaded fine (word k))
    represents in
    c.in-Ok.ensures.found is k w represents (sym agree.root_is)
    (members_are g.D.Sectors w s _ c.deref.ensures fine (word k)
    (laid_of (stores.content_of g.D.Sectors s.store) w represents))

pub returns-in-Ok-clause-none : goal.returns-in-Ok-clause-none
returns-in-Ok-clause-none g c w at k =
    let s = c.args.self.now in
    let word = c.checked.ensures.reads.leaves.word in
    let represents = at.represents (word k) in
    let agree =
    represented_agrees (stores.content_of g.D.Sectors s.store) w s.modes (s.loaded at.fine (word k))
    represents in
    none_unless c.in-Ok.found
    (λ is. c.in-Ok.ensures.found is k w represents (sym agree.root_is)
    (members_at g.D.Sectors w s at _ c.deref.ensures (word k)))
  where
    none_unless : {X : Type 0} (found : Option X) → (IsTrue (is_some found) → ⊥) → found ≡ None
    none_unless None never = refl
    none_unless (Some x) never = absurd (never refl)

pub returns-in-Err-clause-refused : goal.returns-in-Err-clause-refused
returns-in-Err-clause-refused g c cause w at k =
    let s = c.args.self.now in
    let word = c.checked.ensures.reads.leaves.word in
    let represents = at.represents (word k) in
    let agree =
    represented_agrees (stores.content_of g.D.Sectors s.store) w s.modes (s.loaded at.fine (word k))
    represents in
    ⊎_elim (λ memory. memory)
    (⊎_elim (λ device. absurd (cause device))
    (λ bad. absurd
    (c.in-Err.ensures.refused (ap (λ f. Err f) bad) k w represents (sym agree.root_is)
    (members_at g.D.Sectors w s at _ c.deref.ensures (word k)))))
    c.in-Err.ensures.causes
