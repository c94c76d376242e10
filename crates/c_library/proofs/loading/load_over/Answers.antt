use Rattle.std.proofs.Common.{inr, None}
use Rattle.journal_device.specs.JournalDisk.{calls_of}
use Rattle.warehouse.specs.Found.{MayRepresent}
use Rattle.object_store.specs.Disk.{ShowsSome}
use Rattle.c_library.proofs.Ends.{loads}
use Rattle.c_library.proofs.Files.{at_first}
use Rattle.journal_device.proofs.LawsLemmas.{prefix_is_left}
use Rattle.c_library.proofs.loading.load_over.Goals as goal

pub returns-in-Ok-clause-loads : goal.returns-in-Ok-clause-loads
returns-in-Ok-clause-loads g c =
    let image = g.O.Origin.image in
    let before = calls_of c.in-Some.device in (
      c.into_calls.ensures.within,
      λ facts holds.
          let done = c.in-Ok.ensures.loads (λ d. tt) facts
          (at_first image before (ShowsSome (MayRepresent facts None)) c.in-Some.ensures.none_yet holds) in
          loads prefix_is_left image before (calls_of c.in-Ok.device) c.into_calls.result.items
          c.in-Some.ensures.none_yet c.into_calls.ensures.calls
          facts c.args.first c.args.rows c.args.lineorder.now done.all done.represents (done.leaves.moments tt),
    )

pub returns-in-Err-clause-refused : goal.returns-in-Err-clause-refused
returns-in-Err-clause-refused g c facts holds =
    let image = g.O.Origin.image in
    let before = calls_of c.in-Some.device in
    inr (c.in-Err.ensures.refused (λ d. tt) facts
    (at_first image before (ShowsSome (MayRepresent facts None)) c.in-Some.ensures.none_yet holds))
