use Rattle.std.proofs.Common.{inr, ℕ, [], subst}
use Rattle.sector_device.proofs.Moments.{leaves_also}
use Rattle.object_store.specs.Commit.{puts_of}
use Rattle.object_store.specs.Publish.{IsStagedForPuts}
use Rattle.object_store.proofs.CreateLemmas.{few_first, ready_created, content_created, either_shows}
use Rattle.object_store.proofs.create.publish_first.Goals as goal

pub stage_first-requires-clause-few : goal.stage_first-requires-clause-few
stage_first-requires-clause-few g c = few_first (puts_of c.args.puts.now) c.args.root.now c.args.layout c.requires.few

pub returns-in-Ok-clause-ready : goal.returns-in-Ok-clause-ready
returns-in-Ok-clause-ready g c w =
    let is_staged =
    subst (λ (n : ℕ). IsStagedForPuts n [] [] (puts_of c.args.puts.now) c.args.root.now 1 c.args.layout
    c.in_ok-staged.staged)
    c.count.ensures c.in_ok-staged.ensures.ok in
    ready_created (puts_of c.args.puts.now) c.args.root.now c.args.layout (g.D.Sectors.state c.args.device.now)
    (c.requires.none (c.publish.ensures.word w)) c.in_ok-staged.staged is_staged
    (g.D.Sectors.state c.publish.new.device) c.publish.ensures.size (c.in-Ok.ensures.settled w)
    (c.in-Ok.ensures.written w)

pub returns-in-Ok-clause-content : goal.returns-in-Ok-clause-content
returns-in-Ok-clause-content g c w =
    let is_staged =
    subst (λ (n : ℕ). IsStagedForPuts n [] [] (puts_of c.args.puts.now) c.args.root.now 1 c.args.layout
    c.in_ok-staged.staged)
    c.count.ensures c.in_ok-staged.ensures.ok in
    content_created (puts_of c.args.puts.now) c.args.root.now c.args.layout (g.D.Sectors.state c.args.device.now)
    (c.requires.none (c.publish.ensures.word w)) c.in_ok-staged.staged is_staged
    (g.D.Sectors.state c.publish.new.device) c.publish.ensures.size (c.in-Ok.ensures.settled w)
    (c.in-Ok.ensures.written w)

pub returns-in-Ok-clause-moments : goal.returns-in-Ok-clause-moments
returns-in-Ok-clause-moments g c = inr (λ w.
    let is_staged =
    subst (λ (n : ℕ). IsStagedForPuts n [] [] (puts_of c.args.puts.now) c.args.root.now 1 c.args.layout
    c.in_ok-staged.staged)
    c.count.ensures c.in_ok-staged.ensures.ok in
    let s1 = g.D.Sectors.state c.args.device.now in
    leaves_also s1 (g.D.Sectors.state c.publish.new.device) _ _
    (either_shows (puts_of c.args.puts.now) c.args.root.now c.args.layout s1
    (c.requires.none (c.publish.ensures.word w)) c.in_ok-staged.staged is_staged) (c.publish.ensures.moments w))

pub returns-in-Err-clause-moments : goal.returns-in-Err-clause-moments
returns-in-Err-clause-moments g c = inr (λ w.
    let is_staged =
    subst (λ (n : ℕ). IsStagedForPuts n [] [] (puts_of c.args.puts.now) c.args.root.now 1 c.args.layout
    c.in_ok-staged.staged)
    c.count.ensures c.in_ok-staged.ensures.ok in
    let s1 = g.D.Sectors.state c.args.device.now in
    leaves_also s1 (g.D.Sectors.state c.publish.new.device) _ _
    (either_shows (puts_of c.args.puts.now) c.args.root.now c.args.layout s1
    (c.requires.none (c.publish.ensures.word w)) c.in_ok-staged.staged is_staged) (c.publish.ensures.moments w))
