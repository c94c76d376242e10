use Rattle.std.proofs.Common.{◌≡◌, ◌+◌, ◌≤◌, List, Some, None, length, refl, sym, ◌∙◌, ap, arith}
use Rattle.std.proofs.lemmas.Bool.{false≢true}
use Rattle.object_store.specs.declared.catalogue.entry.Entry.{Entry}
use Rattle.object_store.specs.Commit.{find_by}
use Rattle.object_store.proofs.Contents.{none_within, is_within, from_within, found_range, length_bytes_at}
use Rattle.object_store.proofs.store.Store.read_at.Goals as goal
use Rattle.object_store.proofs.store.Store.read_at.Goals.{then-at-entry-via-then-at-entry}
use Rattle.object_store.proofs.store.Store.read_at.Goals.{then-at-entry-via-else-at-entry+then-to-entry}

pub returns-in_default-clause-within : goal.returns-in_default-clause-within
returns-in_default-clause-within g c w =
    let store = c.args.self.now in
    let found : find_by (λ (x : Entry). x.id) c.args.id store.entries.items ≡ None =
    ap (λ (l : List Entry). find_by (λ x. x.id) c.args.id l) (sym c.deref.ensures.value) ∙ sym c.find.ensures
    ∙ c.in_default.is in (
      λ yes. absurd (false≢true yes),
      λ within. absurd
          (none_within (g.D.Sectors.state store.device).reads store.entries.items c.args.id c.args.at
          (length c.args.to.now) found within),
    )

pub returns-then-at-entry-clause-within : goal.returns-then-at-entry-clause-within
returns-then-at-entry-clause-within g c w =
    let store = c.args.self.now in
    let s = g.D.Sectors.state store.device in
    let e = c.in-Some.entry in
    let found : find_by (λ (x : Entry). x.id) c.args.id store.entries.items ≡ Some e =
    ap (λ (l : List Entry). find_by (λ x. x.id) c.args.id l) (sym c.deref.ensures.value) ∙ sym c.find.ensures
    ∙ c.in-Some.is in
    let long = length_bytes_at s.reads e.first e.bytes s.size
    (found_range s.size c.args.id store.superblock store.entries.items e found store.kept.laid_out)
    (λ i lt. g.met.D.Sectors.whole store.device i (s.reads i) w lt
    (g.met.D.Sectors.read_may_stay store.device i w)) in (
      λ yes. absurd (false≢true yes),
      λ within.
          let le : c.args.at + length c.args.to.now ≤ e.bytes =
          from_within s.reads store.entries.items c.args.id c.args.at (length c.args.to.now) e found long within in
          elim c.then-at-entry.branch [
            | then-at-entry-via-then-at-entry w ↦ absurd (omega (arith, le, w.if-at-entry.true))
            | then-at-entry-via-else-at-entry+then-to-entry w ↦
                absurd (omega (arith, le, w.if-at-entry.false, w.if-to-entry.true))
          ],
    )

pub returns-clause-within : goal.returns-clause-within
returns-clause-within g c w =
    let store = c.args.self.now in
    let s = g.D.Sectors.state store.device in
    let e = c.in-Some.entry in
    let w0 = c.in_ok-read_entry.ensures.stays.word w in
    let found : find_by (λ (x : Entry). x.id) c.args.id store.entries.items ≡ Some e =
    ap (λ (l : List Entry). find_by (λ x. x.id) c.args.id l) (sym c.deref.ensures.value) ∙ sym c.find.ensures
    ∙ c.in-Some.is in
    let long = length_bytes_at s.reads e.first e.bytes s.size
    (found_range s.size c.args.id store.superblock store.entries.items e found store.kept.laid_out)
    (λ i lt. g.met.D.Sectors.whole store.device i (s.reads i) w0 lt
    (g.met.D.Sectors.read_may_stay store.device i w0)) in (
      λ yes. is_within s.reads store.entries.items c.args.id c.args.at (length c.args.to.now) e found long
          (omega (arith, c.if-at-entry.false, c.if-to-entry.false)),
      λ within. refl,
    )
