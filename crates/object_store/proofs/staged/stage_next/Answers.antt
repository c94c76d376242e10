use Rattle.std.proofs.Common.{◌<◌, List, inr, sym, ◌∙◌, subst}
use Rattle.std.specs.List.{All}
use Rattle.extents.specs.declared.extent.Extent.{Extent}
use Rattle.extents.specs.Extents.{SomeHolds, AreLaidOut}
use Rattle.object_store.specs.declared.catalogue.entry.Entry.{Entry}
use Rattle.object_store.specs.Catalogue.{FitsFields, IsProperEntry, IdsAscend}
use Rattle.object_store.specs.Places.{extent_of, extents_of}
use Rattle.object_store.proofs.Lists.{All-drop_each, AllPairs-drop_each}
use Rattle.object_store.proofs.Extents.{held_drop_each, laid_out_drop_each, laid_out_tail}
use Rattle.object_store.proofs.staged.stage_next.Goals as goal

pub stage-requires-clause-kept : goal.stage-requires-clause-kept
stage-requires-clause-kept c =
    let super = c.args.superblock.now in
    subst (λ (l : List Entry). AreLaidOut super.sectors (extents_of l)) (sym c.in_ok-kept.ensures.ok)
    (laid_out_drop_each super.sectors (λ (e : Entry). e.id) c.args.drops.now c.args.entries.now
    (laid_out_tail super.sectors (extent_of super.catalogue super.bytes) (extents_of c.args.entries.now)
    c.requires.laid_out))

pub stage-requires-clause-in_use : goal.stage-requires-clause-in_use
stage-requires-clause-in_use c sector held =
    subst (λ (l : List Extent). SomeHolds l sector) (sym (c.deref.ensures.value ∙ c.in_ok-used.ensures.ok))
    (inr (held_drop_each (λ (e : Entry). e.id) c.args.drops.now c.args.entries.now sector
    (subst (λ (l : List Entry). SomeHolds (extents_of l) sector) c.in_ok-kept.ensures.ok held)))

pub stage-requires-clause-fit : goal.stage-requires-clause-fit
stage-requires-clause-fit c =
    subst (λ (l : List Entry). All FitsFields l) (sym c.in_ok-kept.ensures.ok)
    (All-drop_each FitsFields (λ (e : Entry). e.id) c.args.drops.now c.args.entries.now c.requires.fit)

pub stage-requires-clause-proper : goal.stage-requires-clause-proper
stage-requires-clause-proper c =
    subst (λ (l : List Entry). All IsProperEntry l) (sym c.in_ok-kept.ensures.ok)
    (All-drop_each IsProperEntry (λ (e : Entry). e.id) c.args.drops.now c.args.entries.now c.requires.proper)

pub stage-requires-clause-ascending : goal.stage-requires-clause-ascending
stage-requires-clause-ascending c =
    subst IdsAscend (sym c.in_ok-kept.ensures.ok)
    (AllPairs-drop_each (λ (a : Entry) (b : Entry). a.id < b.id) (λ (e : Entry). e.id) c.args.drops.now
    c.args.entries.now c.requires.ascending)
