use Rattle.std.proofs.Common.{⊎_elim, inl, inr, ◌≤◌, List, length, map, sym, subst}
use Rattle.std.specs.Prelude.{IfOk}
use Rattle.std.proofs.lemmas.Result.{IfErr-weaker}
use Rattle.wire.specs.Limits.{most_objects}
use Rattle.object_store.specs.declared.catalogue.entry.Entry.{Entry}
use Rattle.object_store.specs.Commit.{puts_of, put_each, drop_each, put_size}
use Rattle.object_store.specs.Places.{sizes_at, used_by}
use Rattle.object_store.specs.Publish.{IsStagedOver}
use Rattle.object_store.specs.Room.{LacksPlaces, sectors_asked_for}
use Rattle.object_store.proofs.Committing.{few_commit, lacks_room}
use Rattle.object_store.proofs.store.Store.stage.Goals as goal

pub stage_next-requires-clause-few : goal.stage_next-requires-clause-few
stage_next-requires-clause-few g c =
    let store = c.args.self.now in
    subst (λ (l : List Entry). length
    (put_each (λ o. o.0) (map put_size (puts_of c.args.puts.now))
    (sizes_at (drop_each (λ e. e.id) c.args.drops.now l))) ≤ most_objects) (sym c.deref.ensures.value)
    (few_commit (g.D.Sectors.state store.device).reads store.superblock store.entries.items store.root.items
    (puts_of c.args.puts.now) c.args.drops.now c.args.root.now c.args.layout c.requires.few)

pub returns-clause-ok : goal.returns-clause-ok
returns-clause-ok g c =
    let store = c.args.self.now in
    subst (λ (l : List Entry). IfOk c.stage_next.result
    (IsStagedOver store.superblock l (puts_of c.args.puts.now) c.args.drops.now c.args.root.now c.args.layout))
    c.deref.ensures.value c.stage_next.ensures.ok

pub returns-clause-refuses : goal.returns-clause-refuses
returns-clause-refuses g c =
    let store = c.args.self.now in
    IfErr-weaker c.stage_next.result _ _ (λ fault why no_failed. ⊎_elim (λ memory. inl memory) (λ full. inr (inr (
      full.0,
      lacks_room store.superblock.sectors (used_by store.superblock store.entries.items) store.entries.items
          (puts_of c.args.puts.now) c.args.drops.now c.args.root.now
          (subst (λ (l : List Entry). LacksPlaces store.superblock.sectors (used_by store.superblock l)
          (sectors_asked_for (sizes_at (drop_each (λ e. e.id) c.args.drops.now l)) (puts_of c.args.puts.now)
          c.args.root.now)) c.deref.ensures.value full.1),
    ))) why) c.stage_next.ensures.refused
