-- Laws of what a crash leaves, over contents. Callers of the store need no others. Our own.
use Rattle.std.specs.Prelude.{ℕ, refl}
use Rattle.std.proofs.Common.{◌∙◌, subst}
use Rattle.sector_device.specs.Device.{Image, IsImage, LeavesOnly}
use Rattle.sector_device.proofs.Moments.{started, join_runs, leaves_also}
use Rattle.object_store.specs.Content.{Content}
use Rattle.object_store.specs.Disk.{Disk, Each, Passes, Leaves, ShowsSome}

-- before the first call
pub begins : (P : ℕ → Image → Type 0) (now : Disk)
    → (now.keeps_word → (image : Image) → now.state.left_since now.state.moment image → IsImage now.state image)
    → Each now P → Passes now now P
begins P now only each = record {
  word = λ w. w;
  size = λ w. refl;
  moments = λ w. started now.state (P now.state.size) (only w) (each w);
}

-- one run after another
pub passes_then : (P : ℕ → Image → Type 0) (old mid new : Disk) → Passes old mid P → Passes mid new P → Passes old new P
passes_then P old mid new first second = record {
  word = λ w. first.word (second.word w);
  size = λ w. second.size w ∙ first.size (second.word w);
  moments = λ w. join_runs old.state mid.state new.state (P old.state.size) (first.moments (second.word w))
      (subst (λ (n : ℕ). LeavesOnly mid.state new.state (P n)) (first.size (second.word w)) (second.moments w));
}

-- and what is said may be weakened
pub passes_also : (P Q : ℕ → Image → Type 0) (old new : Disk)
    → (old.keeps_word → (size : ℕ) (image : Image) → P size image → Q size image) → Passes old new P → Passes old new Q
passes_also P Q old new so passes = record {
  word = passes.word;
  size = passes.size;
  moments = λ w. leaves_also old.state new.state (P old.state.size) (Q old.state.size)
      (so (passes.word w) old.state.size) (passes.moments w);
}

pub leaves_then : (P : Content → Type 0) (old mid new : Disk) → Leaves old mid P → Leaves mid new P → Leaves old new P
leaves_then P = passes_then (ShowsSome P)

pub leaves_weaker : (P Q : Content → Type 0) (old new : Disk) → (old.keeps_word → (c : Content) → P c → Q c)
    → Leaves old new P → Leaves old new Q
leaves_weaker P Q old new so =
    passes_also (ShowsSome P) (ShowsSome Q) old new (λ w size image shown. (shown.0, shown.1, so w shown.0 shown.2))
