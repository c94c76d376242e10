-- How a run of device calls goes on, from one moment to the next. Our own.
use Rattle.std.specs.Prelude.{ℕ}
use Rattle.std.proofs.Common.{inl, inr, ⊎_elim, arith}
use Rattle.sector_device.specs.Device.{Image, DeviceState, IsImage, Elapses, LeavesOnly}

-- before the first call
pub started : (s : DeviceState) (P : Image → Type 0) → ((image : Image) → s.left_since s.moment image → IsImage s image)
    → ((image : Image) → IsImage s image → P image) → LeavesOnly s s P
started s P only here = record {
  later = omega arith;
  each = λ image left. here image (only image left);
  before = λ t image le left. inl left;
}

-- one call more, after which a crash leaves what has P
pub goes_on : (old mid new : DeviceState) (P : Image → Type 0) → LeavesOnly old mid P → Elapses mid new
    → ((image : Image) → IsImage new image → P image) → LeavesOnly old new P
goes_on old mid new P so_far time here = record {
  later = omega (arith, so_far.later, time.later);
  each = λ image left. ⊎_elim (so_far.each image) (here image) (time.nothing_else old.moment image so_far.later left);
  before = λ t image le left. ⊎_elim (so_far.before t image le) (λ now. inr (here image now))
      (time.nothing_else t image (omega (arith, le, so_far.later)) left);
}

-- one run after another
pub join_runs : (old mid new : DeviceState) (P : Image → Type 0) → LeavesOnly old mid P → LeavesOnly mid new P
    → LeavesOnly old new P
join_runs old mid new P first second = record {
  later = omega (arith, first.later, second.later);
  each = λ image left. ⊎_elim (first.each image) (λ has. has) (second.before old.moment image first.later left);
  before = λ t image le left. ⊎_elim (first.before t image le) (λ has. inr has)
      (second.before t image (omega (arith, le, first.later)) left);
}

pub leaves_also : (old new : DeviceState) (P Q : Image → Type 0) → ((image : Image) → P image → Q image)
    → LeavesOnly old new P → LeavesOnly old new Q
leaves_also old new P Q so leaves = record {
  later = leaves.later;
  each = λ image left. so image (leaves.each image left);
  before = λ t image le left. ⊎_elim (λ was. inl was) (λ has. inr (so image has)) (leaves.before t image le left);
}
