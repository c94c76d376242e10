use Rattle.std.proofs.Common.{◌≡◌, ◌<◌, ◌∙◌, List, ℕ, length, ap, subst, arith}
use Rattle.std.proofs.lemmas.Bool.Decides.{nat_tests}
use Rattle.std.proofs.lemmas.Result.{on_ok_weaker}
use Rattle.sector_device.specs.Device.{HasRun}
use Rattle.object_store.specs.Blocks.{padded}
use Rattle.object_store.proofs.ExtentLemmas.{written_whole, written_rest}
use Rattle.object_store.proofs.extent.write_extent.Goals as goal

pub returns-then-is_empty-clause-written : goal.returns-then-is_empty-clause-written
returns-then-is_empty-clause-written g c w =
    let reads = (g.D.Sectors.state c.write_run.new.self).reads in
    let none : length c.split_at.result.1.now ≡ 0 = grind (arith, nat_tests, c.is_empty.ensures, c.if-is_empty.true) in
    written_whole c.args.bytes.now c.args.first reads (omega (arith, none, c.split_at.ensures.back_len))
    (subst (λ (l : List ℕ). HasRun reads c.args.first l) c.split_at.ensures.front (c.in_ok-write_run.ensures.written w))

pub returns-clause-written : goal.returns-clause-written
returns-clause-written g c =
    let state = g.D.Sectors.state in
    let mid = (state c.write_run.new.self).reads in
    let some : 0 < length c.split_at.result.1.now = grind (arith, nat_tests, c.is_empty.ensures, c.if-is_empty.false) in
    on_ok_weaker c.write.result (λ last w.
    written_rest c.args.bytes.now c.args.first mid (state c.write.new.self).reads _
    (omega (arith, some, c.split_at.ensures.back_len)) (omega (arith, c.split_at.ensures.front_len))
    (subst (λ (l : List ℕ). HasRun mid c.args.first l) c.split_at.ensures.front
    (c.in_ok-write_run.ensures.written (c.write.ensures.word w)))
    (c.write.ensures.writes w).others (last w ∙ c.block.ensures ∙ ap padded c.split_at.ensures.back))
    c.write.ensures.written
