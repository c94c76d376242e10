use Rattle.std.proofs.Common.{◌∷◌, ◌++◌, [], List, length, All}
use Rattle.std.proofs.lemmas.List.Elements.{All-push}
use Rattle.journal_device.specs.Calls.{IsWithin}
use Rattle.sector_device.specs.Device.{Syncs}
use Rattle.sector_device.specs.Memory.{content}
use Rattle.sector_device.specs.EventRuns.{sectors_in}
use Rattle.journal_device.specs.After.{state_after, CallsAreWhole}
use Rattle.journal_device.specs.Latest.{ShowsLatest}
use Rattle.journal_device.specs.declared.call.Call.{Call}
use Rattle.journal_device.specs.declared.call.Call.TheVariants.{Sync}
use Rattle.journal_device.proofs.DiskLemmas.{a_sync, agrees_synced, either, syncs, syncs_nothing, whole_synced}
use Rattle.journal_device.proofs.disk.JournalDiskSectors.sync.Goals as goal

pub invariant_of-self : goal.invariant_of-self
invariant_of-self g c =
    let image = g.O.Origin.image in
    let size = length (sectors_in image) in
    let calls = c.args.self.now.calls.items in
    let r = c.record_sync-outcome in record {
      over = c.args.self.now.over;
      agrees = either
          (λ (l : List Call). ShowsLatest (content (sectors_in image)) (state_after image l).reads
          c.args.self.now.latest.entries) r.result calls (calls ++ Sync ∷ []) r.new.calls.items r.ensures.ok
          r.ensures.err
          (agrees_synced image calls c.args.self.now.latest.entries c.args.self.now.agrees) c.args.self.now.agrees;
      whole = either (CallsAreWhole image) r.result calls (calls ++ Sync ∷ []) r.new.calls.items r.ensures.ok
          r.ensures.err
          (whole_synced image calls c.args.self.now.whole) c.args.self.now.whole;
      within = either (All (IsWithin size)) r.result calls (calls ++ Sync ∷ []) r.new.calls.items r.ensures.ok
          r.ensures.err (All-push (IsWithin size) calls Sync c.args.self.now.within (a_sync size))
          c.args.self.now.within;
    }

pub returns-clause-syncs : goal.returns-clause-syncs
returns-clause-syncs g c =
    let image = g.O.Origin.image in
    let calls = c.args.self.now.calls.items in
    let r = c.record_sync-outcome in
    either (λ (l : List Call). Syncs (state_after image calls) (state_after image l)) r.result calls
    (calls ++ Sync ∷ []) r.new.calls.items r.ensures.ok r.ensures.err (syncs image calls)
    (syncs_nothing (state_after image calls))
