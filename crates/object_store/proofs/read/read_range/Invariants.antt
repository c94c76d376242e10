use Rattle.std.proofs.Common.{◌≡◌, ◌+◌, ◌-◌, ◌≤◌, ℕ, length, take, drop}
use Rattle.object_store.specs.DeviceCalls.{ReadsDevice}
use Rattle.object_store.specs.Places.{bytes_at}
use Rattle.object_store.proofs.read.read_range.Given as goal

abbrev pub invariant-loop-done : goal.invariant-loop-done
invariant-loop-done g l =
    let first = g.D.Sectors.state l.initial.device in record {
      within : l.done ≤ length l.to;
      reads : ReadsDevice g.D.Sectors l.initial.device l.device;
      failures : g.D.Sectors.failed l.device ≡ g.D.Sectors.failed l.initial.device;
      bytes : g.D.Sectors.keeps_word l.device → (total : ℕ) → l.at + length l.initial.to ≤ total
          → take l.done l.to ≡ take l.done (drop l.at (bytes_at first.reads l.first total));
    }

abbrev pub decreases-loop-done : goal.decreases-loop-done
decreases-loop-done g l = length l.to - l.done
