use Rattle.std.proofs.Common.{◌∙◌, ℕ, List, length, inl, inr, sym, ap, subst}
use Rattle.std.proofs.lemmas.Result.{on_ok_weaker}
use Rattle.std.proofs.lemmas.List.Elements.{All-head}
use Rattle.extents.specs.Extents.{Holds, SomeHolds, AreApart, IsInRange, AreLaidOut}
use Rattle.object_store.specs.declared.catalogue.entry.Entry.{Entry}
use Rattle.object_store.specs.Places.{bytes_at, extent_of, extents_of, objects_at}
use Rattle.object_store.specs.Publish.{written_by}
use Rattle.object_store.proofs.DeviceCalls.{writes_more, writes_then}
use Rattle.object_store.proofs.Lists.{AllPairs-head}
use Rattle.object_store.proofs.Extents.{laid_out_tail, apart_from}
use Rattle.object_store.proofs.Frames.{objects_same}
use Rattle.object_store.proofs.publish.write_texts.Goals as goal

pub write_objects-requires-clause-laid_out : goal.write_objects-requires-clause-laid_out
write_objects-requires-clause-laid_out g c =
    let staged = c.args.staged.now in
    subst (λ (l : List Entry). AreLaidOut (g.D.Sectors.state c.args.device.now).size (extents_of l))
    (sym c.deref.ensures.value)
    (laid_out_tail (g.D.Sectors.state c.args.device.now).size
    (extent_of staged.superblock.catalogue staged.superblock.bytes) (extents_of staged.placed.items)
    c.requires.laid_out)

pub write_extent-requires-clause-in_range : goal.write_extent-requires-clause-in_range
write_extent-requires-clause-in_range g c =
    let staged = c.args.staged.now in
    let size = (g.D.Sectors.state c.args.device.now).size in
    subst (λ (n : ℕ). IsInRange n (extent_of staged.superblock.catalogue (length c.deref-2.result.now)))
    (sym c.write_objects.ensures.writes.size)
    (subst (λ (n : ℕ). IsInRange size (extent_of staged.superblock.catalogue n))
    (c.requires.bytes ∙ ap length (sym c.deref-2.ensures.value))
    (All-head (IsInRange size) (extent_of staged.superblock.catalogue staged.superblock.bytes)
    (extents_of staged.placed.items) c.requires.laid_out.in_range))

pub returns-in_err-write_objects-clause-writes : goal.returns-in_err-write_objects-clause-writes
returns-in_err-write_objects-clause-writes g c =
    writes_more g.D.Sectors (SomeHolds (extents_of c.deref.result.now)) (SomeHolds (written_by c.args.staged.now)) _ _
    (λ i held. inr (subst (λ (l : List Entry). SomeHolds (extents_of l) i) c.deref.ensures.value held))
    c.write_objects.ensures.writes

pub returns-clause-writes : goal.returns-clause-writes
returns-clause-writes g c =
    let staged = c.args.staged.now in
    writes_then g.D.Sectors (SomeHolds (written_by staged))
    (Holds (extent_of staged.superblock.catalogue (length c.deref-2.result.now))) _ _ _
    (λ i held. inl
    (subst (λ (n : ℕ). Holds (extent_of staged.superblock.catalogue n) i)
    (ap length c.deref-2.ensures.value ∙ sym c.requires.bytes) held))
    (writes_more g.D.Sectors (SomeHolds (extents_of c.deref.result.now)) (SomeHolds (written_by staged)) _ _
    (λ i held. inr (subst (λ (l : List Entry). SomeHolds (extents_of l) i) c.deref.ensures.value held))
    c.write_objects.ensures.writes) c.write_extent.ensures.writes

pub returns-clause-objects : goal.returns-clause-objects
returns-clause-objects g c =
    on_ok_weaker c.write_extent.result (λ written w.
    let staged = c.args.staged.now in
    let cat = extent_of staged.superblock.catalogue staged.superblock.bytes in
    let apart =
    apart_from cat (extents_of staged.placed.items)
    (AllPairs-head AreApart cat (extents_of staged.placed.items) c.requires.laid_out.apart) in
    objects_same (g.D.Sectors.state c.write_extent.new.device).reads
    (g.D.Sectors.state c.write_objects.new.device).reads staged.placed.items
    (λ i held. (c.write_extent.ensures.writes.only w).others i
    (λ here. apart i
    (subst (λ (n : ℕ). Holds (extent_of staged.superblock.catalogue n) i)
    (ap length c.deref-2.ensures.value ∙ sym c.requires.bytes) here) held))
    ∙ ap (λ (l : List Entry). objects_at (g.D.Sectors.state c.write_objects.new.device).reads l)
    (sym c.deref.ensures.value)
    ∙ c.in_ok-write_objects.ensures.objects (c.write_extent.ensures.writes.word w)) c.write_extent.ensures.written

pub returns-clause-catalogue : goal.returns-clause-catalogue
returns-clause-catalogue g c =
    on_ok_weaker c.write_extent.result (λ written w.
    let staged = c.args.staged.now in
    ap (λ (n : ℕ). bytes_at (g.D.Sectors.state c.write_extent.new.device).reads staged.superblock.catalogue n)
    (c.requires.bytes ∙ ap length (sym c.deref-2.ensures.value))
    ∙ written w ∙ c.deref-2.ensures.value) c.write_extent.ensures.written
