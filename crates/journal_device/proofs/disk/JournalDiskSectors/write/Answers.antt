use Rattle.std.proofs.Common.{◌∷◌, ◌++◌, [], List, length, All, arith}
use Rattle.std.proofs.lemmas.List.Elements.{All-push}
use Rattle.sector_device.specs.EventRuns.{sectors_in}
use Rattle.journal_device.specs.Calls.{IsWithin}
use Rattle.sector_device.specs.Device.{WritesSector}
use Rattle.journal_device.specs.After.{state_after, CallsAreWhole}
use Rattle.journal_device.specs.declared.call.Call.{Call}
use Rattle.journal_device.specs.declared.call.Call.TheVariants.{Write}
use Rattle.journal_device.proofs.DiskLemmas.{a_write, agrees_either, either, no_call, whole_written, writes}
use Rattle.journal_device.proofs.DiskLemmas.{writes_nothing}
use Rattle.journal_device.proofs.disk.JournalDiskSectors.write.Goals as goal

pub invariant_of-self : goal.invariant_of-self
invariant_of-self g c =
    let image = g.O.Origin.image in
    let size = length (sectors_in image) in
    let calls = c.args.self.now.calls.items in
    let r = c.record_write-outcome in
    let more = calls ++ Write c.args.i c.args.from.now ∷ [] in record {
      over = c.args.self.now.over;
      agrees = agrees_either r.result image calls r.new.calls.items c.args.i c.args.from.now
          c.args.self.now.latest.entries r.new.latest.entries r.ensures.ok r.ensures.kept r.ensures.err
          c.args.self.now.agrees;
      whole = either (CallsAreWhole image) r.result calls more r.new.calls.items r.ensures.ok
          (no_call r.result calls r.new.calls.items _ r.ensures.err)
          (whole_written image calls c.args.i c.args.from.now (omega (arith, c.fits-from)) c.args.self.now.whole)
          c.args.self.now.whole;
      within = either (All (IsWithin size)) r.result calls more r.new.calls.items r.ensures.ok
          (no_call r.result calls r.new.calls.items _ r.ensures.err)
          (All-push (IsWithin size) calls (Write c.args.i c.args.from.now) c.args.self.now.within
          (a_write size c.args.i c.args.from.now c.requires (omega (arith, c.fits-from)))) c.args.self.now.within;
    }

pub returns-clause-writes : goal.returns-clause-writes
returns-clause-writes g c =
    let image = g.O.Origin.image in
    let calls = c.args.self.now.calls.items in
    let r = c.record_write-outcome in
    let more = calls ++ Write c.args.i c.args.from.now ∷ [] in
    either (λ (l : List Call). WritesSector c.args.i c.args.from.now (state_after image calls) (state_after image l))
    r.result
    calls more r.new.calls.items r.ensures.ok (no_call r.result calls r.new.calls.items _ r.ensures.err)
    (writes image calls c.args.i c.args.from.now) (writes_nothing c.args.i c.args.from.now (state_after image calls))
