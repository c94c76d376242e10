use Rattle.std.proofs.Common.{ap, rules}
use Rattle.warehouse_root.specs.declared.cuboid.StoredCuboid.{StoredCuboid}
use Rattle.object_store.specs.Store.{content_of}
use Rattle.warehouse_objects.proofs.CallerLemmas.{laid_of}
use Rattle.stored_cuboids.proofs.Auditing.{ok_so}
use Rattle.stored_cuboids.proofs.StoredRuns.{grouping_there, sound_at}
use Rattle.cuboid_upkeep.proofs.LawsLemmas.{merges_represent_both}
use Rattle.stored_cuboids.proofs.Represented.{kept_cuboids_are_sound}
use Rattle.warehouse_objects.proofs.OneMoreRead.{reads_nothing}
use Rattle.stored_cuboids.proofs.runs.merged_runs.Goals as goal

pub returns-clause-grouping : goal.returns-clause-grouping
returns-clause-grouping g c =
    ok_so _ _ c.merge_all.result (λ cells merge k w stored represents found said.
    let content = content_of g.D.Sectors c.args.store.now in
    grouping_there merges_represent_both content w c.args.cuboid.view c.args.cuboid.mark stored cells
    represents found (ap (λ (s : StoredCuboid). s.mark) said)
    (merge k w stored (laid_of content w represents) found said)) c.merge_all.ensures.ok

pub returns-clause-refused : goal.returns-clause-refused
returns-clause-refused g c = λ is k w stored represents found said.
    let content = content_of g.D.Sectors c.args.store.now in
    c.merge_all.ensures.unsound is k w stored (laid_of content w represents) found said
    (sound_at w c.args.cuboid.view stored found (kept_cuboids_are_sound content w represents))

pub returns-in_default-clause-reads : goal.returns-in_default-clause-reads
returns-in_default-clause-reads g c =
    reads_nothing g.D.Sectors g.met.D.Sectors.only_now c.args.store.now c.requires.fine _ (λ is. search rules)
