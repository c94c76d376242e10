-- How a run of writes goes on, and a run of calls that change nothing.
use Rattle.std.specs.Prelude.{◌≢◌, ℕ, List, refl}
use Rattle.std.proofs.Common.{inl, inr, ⊎_elim, sym, ◌∙◌, subst, arith}
use Rattle.sector_device.specs.Device.{Image, DeviceState, IsImage, CandidatesStay, WritesSector, WritesWithin, Syncs}
use Rattle.sector_device.proofs.Moments.{started, goes_on, join_runs, leaves_also}

-- before the first write
pub none_written : (Within : ℕ → Type 0) (s : DeviceState)
    → ((image : Image) → s.left_since s.moment image → IsImage s image) → WritesWithin Within s s
none_written Within s only = record {
  others = λ i out. refl;
  no_more = λ i b out may. may;
  leaves = started s _ only (λ image is i out. is i);
}

-- one write more
pub one_written : (Within : ℕ → Type 0) (old mid new : DeviceState) (at : ℕ) (bytes : List ℕ) → Within at
    → WritesWithin Within old mid → WritesSector at bytes mid new → WritesWithin Within old new
one_written Within old mid new at bytes in_it so_far writes =
    let other : (i : ℕ) → (Within i → ⊥) → i ≢ at = λ i out e. out (subst Within (sym e) in_it) in
    let held : (i : ℕ) (b : List ℕ) → (Within i → ⊥) → new.may_hold i b → old.may_hold i b =
    λ i b out may. so_far.no_more i b out
    (⊎_elim (λ was. was) (λ put. absurd (other i out put.0)) (writes.no_more i b may)) in record {
      others = λ i out. writes.others i (other i out) ∙ so_far.others i out;
      no_more = held;
      leaves = goes_on old mid new _ so_far.leaves writes.time (λ image is i out. held i (image i) out (is i));
    }

-- and a sync
pub synced_within : (Within : ℕ → Type 0) (old mid new : DeviceState) → WritesWithin Within old mid → Syncs mid new
    → WritesWithin Within old new
synced_within Within old mid new so_far syncs = record {
  others = λ i out. syncs.reads i ∙ so_far.others i out;
  no_more = λ i b out may. so_far.no_more i b out (syncs.no_more i b may);
  leaves = goes_on old mid new _ so_far.leaves syncs.time
      (λ image is i out. so_far.no_more i (image i) out (syncs.no_more i (image i) (is i)));
}

-- each sector outside stayed as it was, so what depends on it alone holds
pub within_more : (Within More : ℕ → Type 0) (old new : DeviceState) → ((i : ℕ) → Within i → More i)
    → WritesWithin Within old new → WritesWithin More old new
within_more Within More old new so writes = record {
  others = λ i out. writes.others i (λ w. out (so i w));
  no_more = λ i b out. writes.no_more i b (λ w. out (so i w));
  leaves = leaves_also old new _ _ (λ image all i out. all i (λ w. out (so i w))) writes.leaves;
}

-- one run of writes after another
pub within_then : (Within Part : ℕ → Type 0) (old mid new : DeviceState) → ((i : ℕ) → Part i → Within i)
    → WritesWithin Within old mid → WritesWithin Part mid new → WritesWithin Within old new
within_then Within Part old mid new so first second = record {
  others = λ i out. second.others i (λ p. out (so i p)) ∙ first.others i out;
  no_more = λ i b out may. first.no_more i b out (second.no_more i b (λ p. out (so i p)) may);
  leaves = join_runs old mid new _ first.leaves
      (leaves_also mid new _ _ (λ image held i out. first.no_more i (image i) out (held i (λ p. out (so i p))))
      second.leaves);
}

-- nothing changed, twice
pub stays_then : (old mid new : DeviceState) → CandidatesStay old mid → CandidatesStay mid new → CandidatesStay old new
stays_then old mid new one two =
    let images : (image : Image) → IsImage mid image → IsImage new image =
    λ image is i. two.no_fewer i (image i) (is i) in record {
      reads = λ i. two.reads i ∙ one.reads i;
      no_more = λ i b may. one.no_more i b (two.no_more i b may);
      no_fewer = λ i b may. two.no_fewer i b (one.no_fewer i b may);
      time = record {
        later = omega (arith, one.time.later, two.time.later);
        nothing_else =
            λ t image le left. ⊎_elim
            (λ was. ⊎_elim (λ old. inl old) (λ is. inr (images image is)) (one.time.nothing_else t image le was))
            (λ is. inr is) (two.time.nothing_else t image (omega (arith, le, one.time.later)) left);
        keeps = λ t image le left. two.time.keeps t image (omega (arith, le, one.time.later))
            (one.time.keeps t image le left);
      };
    }
