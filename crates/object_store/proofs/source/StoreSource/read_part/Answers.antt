use Rattle.std.proofs.Common.{length, rules}
use Rattle.object_store.proofs.Contents.{within_entry}
use Rattle.object_store.proofs.SourceLemmas.{as_reads, refused_read}
use Rattle.object_store.proofs.source.StoreSource.read_part.Goals as goal

pub returns-clause-bytes : goal.returns-clause-bytes
returns-clause-bytes g c w =
    let store = c.args.self.now in
    let s = g.D.Sectors.state store.device in
    let w0 = c.read_at.ensures.kept.word w in
    let within = within_entry s.reads store.entries.items c.args.id c.args.at (length c.args.to.now) s.size
    store.superblock store.kept.laid_out
    (λ i lt. g.met.D.Sectors.whole store.device i (s.reads i) w0 lt (g.met.D.Sectors.read_may_stay store.device i w0))
    c.requires.within in
    c.in_ok-read_at.ensures.bytes ((c.in_ok-read_at.ensures.within w).1 within) w

pub returns-in_err-read_at-clause-run : goal.returns-in_err-read_at-clause-run
returns-in_err-read_at-clause-run g c =
    refused_read g.D.Sectors c.from_residual.result c.in_err-read_at.field-0.0 c.args.self.now c.read_at.new.self
    c.from_residual.ensures.1 (search rules)

pub returns-clause-run : goal.returns-clause-run
returns-clause-run g c = as_reads g.D.Sectors c.args.self.now c.read_at.new.self (search rules)
