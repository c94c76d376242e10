use Rattle.std.proofs.Common.{◌≡◌, ◌+◌, ◌<◌, ◌*◌, ℕ, take, drop}
use Rattle.sector_device.specs.Device.{CandidatesStay}
use Rattle.sector_device.proofs.device.Sectors.read_run.Given as goal

abbrev pub invariant-loop-k : goal.invariant-loop-k
invariant-loop-k g l =
    let D = g.Self.Sectors in let old = D.state l.initial.self in let now = D.state l.self in record {
      size : now.size ≡ old.size;
      failures : D.failed l.self ≡ D.failed l.initial.self;
      word : D.keeps_word l.self → D.keeps_word l.initial.self;
      goes_on : D.always_keeps → D.keeps_word l.initial.self → D.keeps_word l.self;
      bytes : D.keeps_word l.self → (k : ℕ) → k < l.k → take 512 (drop (k * 512) l.to) ≡ old.reads (l.first + k);
      stays : D.keeps_word l.self → CandidatesStay old now;
    }
