use Rattle.std.proofs.Common.{◌≡◌}
use Rattle.std.proofs.lemmas.Result.{IfErr-weaker, IfOk-weaker}
use Rattle.object_store.specs.Content.{Content}
use Rattle.object_store.specs.Commit.{created, puts_of}
use Rattle.object_store.proofs.CreateLemmas.{blank_where_same, created_or_looked, looked, none_before, spared}
use Rattle.object_store.proofs.DeviceCalls.{images_of}
use Rattle.object_store.proofs.create.create.Goals as goal

pub returns-in-Ok-Some-clause-leaves : goal.returns-in-Ok-Some-clause-leaves
returns-in-Ok-Some-clause-leaves g c =
    looked g.D.Sectors c.args.device.now c.newest.new.device c.newest.ensures.reads
    (λ (x : Content). x ≡ created (puts_of c.args.puts.now) c.args.root.now c.args.layout)

pub returns-in-Err-clause-leaves : goal.returns-in-Err-clause-leaves
returns-in-Err-clause-leaves g c =
    looked g.D.Sectors c.args.device.now c.newest.new.device c.newest.ensures.reads
    (λ (x : Content). x ≡ created (puts_of c.args.puts.now) c.args.root.now c.args.layout)

pub returns-in-Ok-Some-clause-spared : goal.returns-in-Ok-Some-clause-spared
returns-in-Ok-Some-clause-spared g c formatted =
    images_of g.D.Sectors c.args.device.now c.newest.new.device c.newest.ensures.reads

pub returns-in-Err-clause-spared : goal.returns-in-Err-clause-spared
returns-in-Err-clause-spared g c formatted =
    images_of g.D.Sectors c.args.device.now c.newest.new.device c.newest.ensures.reads

pub returns-clause-leaves : goal.returns-clause-leaves
returns-clause-leaves g c =
    created_or_looked g.D.Sectors c.args.device.now c.newest.new.device c.newest.ensures.reads
    c.publish_first.new.device c.publish_first.ensures.word c.publish_first.ensures.size
    (λ (x : Content). x ≡ created (puts_of c.args.puts.now) c.args.root.now c.args.layout)
    c.publish_first.ensures.moments

pub returns-clause-blank : goal.returns-clause-blank
returns-clause-blank g c =
    IfErr-weaker c.publish_first.result _ _
    (λ fault untouched other. blank_where_same g.D.Sectors c.args.device.now c.newest.new.device
    c.newest.ensures.reads c.publish_first.new.device (untouched other)) c.publish_first.ensures.untouched

pub returns-clause-spared : goal.returns-clause-spared
returns-clause-spared g c =
    let found = rw c.in-Ok-None.field-0-is at c.in-Ok-None.ensures.found in
    IfErr-weaker c.publish_first.result _ _
    (λ fault cause formatted. spared g.D.Sectors c.args.device.now c.newest.new.device c.newest.ensures.reads
    c.publish_first.new.device c.publish_first.ensures.word c.publish_first.ensures.size found formatted)
    c.publish_first.ensures.causes

pub returns-clause-unformatted : goal.returns-clause-unformatted
returns-clause-unformatted g c =
    let found = rw c.in-Ok-None.field-0-is at c.in-Ok-None.ensures.found in
    IfOk-weaker c.publish_first.result _ _
    (λ staged kept w. none_before g.D.Sectors c.args.device.now c.newest.new.device c.newest.ensures.reads
    (c.publish_first.ensures.word w) (found (c.publish_first.ensures.word w))) c.publish_first.ensures.kept
