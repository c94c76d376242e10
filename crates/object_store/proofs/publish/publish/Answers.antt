use Rattle.std.proofs.lemmas.Result.{on_ok_weaker}
use Rattle.sector_device.proofs.WriteRuns.{synced_within}
use Rattle.extents.specs.Extents.{SomeHolds}
use Rattle.object_store.specs.Commit.{puts_of}
use Rattle.object_store.specs.Publish.{written_by}
use Rattle.object_store.proofs.PublishLemmas.{writing, switching, ended, has_written}
use Rattle.object_store.proofs.publish.publish.Goals as goal

pub returns-in_err-write_texts-clause-moments : goal.returns-in_err-write_texts-clause-moments
returns-in_err-write_texts-clause-moments g c w1 =
    let w0 = c.write_texts.ensures.writes.word w1 in
    writing c.args.staged.now (puts_of c.args.puts.now) (g.D.Sectors.state c.args.device.now) (c.requires.settled w0)
    (g.D.Sectors.state c.write_texts.new.device) (c.write_texts.ensures.writes.only w1)

pub returns-in_err-sync-clause-moments : goal.returns-in_err-sync-clause-moments
returns-in_err-sync-clause-moments g c w2 =
    let w1 = c.sync.ensures.word w2 in
    let w0 = c.write_texts.ensures.writes.word w1 in
    let s0 = g.D.Sectors.state c.args.device.now in
    let s1 = g.D.Sectors.state c.write_texts.new.device in
    let s2 = g.D.Sectors.state c.sync.new.self in
    writing c.args.staged.now (puts_of c.args.puts.now) s0 (c.requires.settled w0) s2
    (synced_within (SomeHolds (written_by c.args.staged.now)) s0 s1 s2 (c.write_texts.ensures.writes.only w1)
    (c.sync.ensures.syncs w2))

pub returns-in_err-write-clause-moments : goal.returns-in_err-write-clause-moments
returns-in_err-write-clause-moments g c w3 =
    let w2 = c.write.ensures.word w3 in
    let w1 = c.sync.ensures.word w2 in
    let w0 = c.write_texts.ensures.writes.word w1 in
    let s0 = g.D.Sectors.state c.args.device.now in
    let s1 = g.D.Sectors.state c.write_texts.new.device in
    let s2 = g.D.Sectors.state c.sync.new.self in
    let s3 = g.D.Sectors.state c.write.new.self in
    switching c.args.staged.now (puts_of c.args.puts.now) s0 (c.requires.settled w0) s0.size c.requires.laid_out s1 s2
    s3
    (c.write_texts.ensures.writes.only w1)
    (c.in_ok-write_texts.ensures.objects w1) (c.in_ok-write_texts.ensures.catalogue w1) (c.sync.ensures.syncs w2)
    (c.in_ok-sync.ensures.settled w2) c.encode.result c.encode.ensures (c.write.ensures.writes w3)

pub returns-clause-moments : goal.returns-clause-moments
returns-clause-moments g c w4 =
    let w3 = c.sync-2.ensures.word w4 in
    let w2 = c.write.ensures.word w3 in
    let w1 = c.sync.ensures.word w2 in
    let w0 = c.write_texts.ensures.writes.word w1 in
    let s0 = g.D.Sectors.state c.args.device.now in
    let s1 = g.D.Sectors.state c.write_texts.new.device in
    let s2 = g.D.Sectors.state c.sync.new.self in
    let s3 = g.D.Sectors.state c.write.new.self in
    ended c.args.staged.now (puts_of c.args.puts.now) s0 (c.requires.settled w0) s0.size c.requires.laid_out s1 s2 s3
    (c.write_texts.ensures.writes.only w1)
    (c.in_ok-write_texts.ensures.objects w1) (c.in_ok-write_texts.ensures.catalogue w1) (c.sync.ensures.syncs w2)
    (c.in_ok-sync.ensures.settled w2) c.encode.result c.encode.ensures (c.write.ensures.writes w3)
    (g.D.Sectors.state c.sync-2.new.self) (c.sync-2.ensures.syncs w4)

pub returns-clause-written : goal.returns-clause-written
returns-clause-written g c =
    on_ok_weaker c.sync-2.result (λ last w4.
    let w3 = c.sync-2.ensures.word w4 in
    let w2 = c.write.ensures.word w3 in
    let w1 = c.sync.ensures.word w2 in
    let w0 = c.write_texts.ensures.writes.word w1 in
    let s0 = g.D.Sectors.state c.args.device.now in
    let s1 = g.D.Sectors.state c.write_texts.new.device in
    let s2 = g.D.Sectors.state c.sync.new.self in
    let s3 = g.D.Sectors.state c.write.new.self in
    has_written c.args.staged.now (puts_of c.args.puts.now) s0 (c.requires.settled w0) s0.size c.requires.laid_out s1 s2
    s3 (c.write_texts.ensures.writes.only w1)
    (c.in_ok-write_texts.ensures.objects w1) (c.in_ok-write_texts.ensures.catalogue w1) (c.sync.ensures.syncs w2)
    (c.in_ok-sync.ensures.settled w2) c.encode.result c.encode.ensures (c.write.ensures.writes w3)
    (g.D.Sectors.state c.sync-2.new.self) (c.sync-2.ensures.syncs w4) (c.in_ok-write.ensures.written w3))
    c.sync-2.ensures.settled
