use Rattle.std.proofs.Common.{ap, sym, subst, ◌∙◌}
use Rattle.std.specs.Prelude.{IsErrOf}
use Rattle.cube_model.specs.declared.fault.Fault.TheVariants.{BadLayout}
use Rattle.object_store.specs.Content.{Content}
use Rattle.object_store.specs.Store.{IsStill, content_of}
use Rattle.warehouse_root.specs.declared.cuboid.StoredCuboid.{StoredCuboid}
use Rattle.warehouse_objects.specs.Represents.{IsLaidOut}
use Rattle.warehouse_objects.proofs.OneMoreRead.{then_reads}
use Rattle.stored_cuboids.proofs.Auditing.{ok_so, sound_by, stored_within}
use Rattle.stored_cuboids.proofs.audit.is_sound.Goals as goal

pub returns-in-Ok-clause-answer : goal.returns-in-Ok-clause-answer
returns-in-Ok-clause-answer g c =
    ok_so _ _ c.are_grouping.result (λ yes answer k w stored laid rooted same found said.
    let content = content_of g.D.Sectors c.args.store.now in
    let cells = c.in-Ok.cells in
    let still : IsStill g.D.Sectors c.args.store.now c.merged_runs.new.store = c.in-Ok.ensures.reads.stays (λ is. cc) in
    let word = c.are_grouping.ensures.reads.leaves.word k in
    let there = subst (λ (x : Content). IsLaidOut x w) (sym (still.content word)) laid in
    let merge = c.in-Ok.ensures.ok word w stored laid found said in
    let within = stored_within content w c.args.cuboid.view stored cells laid found
    (c.in-Ok.ensures.view ∙ sym (ap (λ (s : StoredCuboid). s.view) said)) in
    let rows = answer k w there rooted same within in
    let sound = sound_by w stored c.args.cuboid.mark cells (ap (λ (s : StoredCuboid). s.mark) said) merge in
    (λ is. sound.0 (rows.0 is), λ is. rows.1 (sound.1 is))) c.are_grouping.ensures.answer

pub returns-in-Ok-clause-refused : goal.returns-in-Ok-clause-refused
returns-in-Ok-clause-refused g c = λ is k w stored laid rooted same found said.
    let content = content_of g.D.Sectors c.args.store.now in
    let still : IsStill g.D.Sectors c.args.store.now c.merged_runs.new.store = c.in-Ok.ensures.reads.stays (λ is. cc) in
    let word = c.are_grouping.ensures.reads.leaves.word k in
    let there = subst (λ (x : Content). IsLaidOut x w) (sym (still.content word)) laid in
    let within = stored_within content w c.args.cuboid.view stored c.in-Ok.cells laid found
    (c.in-Ok.ensures.view ∙ sym (ap (λ (s : StoredCuboid). s.view) said)) in
    c.are_grouping.ensures.refused is k w there rooted same within

pub returns-in-Ok-clause-reads : goal.returns-in-Ok-clause-reads
returns-in-Ok-clause-reads g c =
    then_reads g.D.Sectors c.args.store.now c.merged_runs.new.store c.are_grouping.new.store
    (c.in-Ok.ensures.reads.stays (λ is. cc)) c.are_grouping.result c.requires.fine
    c.merged_runs.ensures.reads.leaves c.are_grouping.ensures.reads

pub returns-in-Err-BadLayout-clause-answer : goal.returns-in-Err-BadLayout-clause-answer
returns-in-Err-BadLayout-clause-answer g c = λ k w stored laid rooted same found said.
    let bad : IsErrOf c.merged_runs.result BadLayout = cc in
    (λ is. absurd cc, λ is. absurd (c.merged_runs.ensures.unsound bad k w stored laid found said is))
