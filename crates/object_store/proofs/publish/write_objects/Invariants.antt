use Rattle.std.proofs.Common.{◌≡◌, take}
use Rattle.extents.specs.Extents.{SomeHolds}
use Rattle.object_store.specs.Commit.{puts_of}
use Rattle.object_store.specs.DeviceCalls.{WritesDevice}
use Rattle.object_store.specs.Places.{extents_of, objects_at}
use Rattle.object_store.proofs.publish.write_objects.Given as goal

abbrev pub invariant-loop-k : goal.invariant-loop-k
invariant-loop-k g l =
    let now = g.D.Sectors.state l.device in record {
      writes : WritesDevice g.D.Sectors (SomeHolds (extents_of l.placed)) l.initial.device l.device;
      failures : g.D.Sectors.failed l.device ≡ g.D.Sectors.failed l.initial.device;
      objects : g.D.Sectors.keeps_word l.device → objects_at now.reads (take l.k l.placed) ≡ take l.k (puts_of l.puts);
    }
