-- Reads of a store, one after another.
use Rattle.std.proofs.Common.{◌≡◌, ℕ, ◌+◌, ◌-◌, ◌^◌, min, false, ◌∙◌, ap, Result, Err}
use Rattle.std.specs.Prelude.{IsErrOf}
use Rattle.cube_model.specs.declared.fault.Fault.{Fault}
use Rattle.cube_model.specs.declared.fault.Fault.TheVariants.{Device}
use Rattle.sector_device.specs.declared.device.Sectors.{Ghosts}
use Rattle.sector_device.specs.Device.{Image, IsImage}
use Rattle.object_store.specs.Disk.{Leaves}
use Rattle.object_store.proofs.Moments.{leaves_then, leaves_weaker}
use Rattle.object_store.proofs.SourceLemmas.{still_here, still_then}
use Rattle.object_store.specs.Store.{Breaks, IsStill, content_of, disk_of, has_failed}
use Rattle.object_store.proofs.CallerLemmas.{leaves_now}
use Rattle.object_store.specs.declared.store.Store.{Store}
use Rattle.warehouse_objects.specs.Reads.{ReadsOnly}

-- a content that stays, over one read more
module _ {D : Type 0} (g : Ghosts D) (a b c : Store D g) (still : IsStill g a b) where
  pub reads_more : Leaves (disk_of g a) (disk_of g b) (λ x. x ≡ content_of g a)
      → Leaves (disk_of g b) (disk_of g c) (λ x. x ≡ content_of g b)
      → Leaves (disk_of g a) (disk_of g c) (λ x. x ≡ content_of g a)
  reads_more first second =
      leaves_then (λ x. x ≡ content_of g a) (disk_of g a) (disk_of g b) (disk_of g c) first
      (leaves_weaker (λ x. x ≡ content_of g b) (λ x. x ≡ content_of g a) (disk_of g b) (disk_of g c)
      (λ k x e. e ∙ still.content k) second)

  -- the second read broke it
  pub breaks_then : has_failed a ≡ false → Breaks g b c → Breaks g a c
  breaks_then fine second = record {
    before = fine;
    failed = second.failed;
    failures = second.failures ∙ ap (λ (n : ℕ). min (n + 1) (2 ^ 64 - 1)) still.failures;
  }

  -- and a whole call that reads, after others that did
  pub then_reads : {A : Type 0} (result : Result A Fault) → has_failed a ≡ false
      → Leaves (disk_of g a) (disk_of g b) (λ x. x ≡ content_of g a) → ReadsOnly g b c result → ReadsOnly g a c result
  then_reads result fine first second = record {
    leaves = reads_more first second.leaves;
    stays = λ other. still_then g a b c still (second.stays other);
    device = λ is. breaks_then fine (second.device is);
  }

-- the same error in the place of another value
error_alike : {X Y : Type 0} (fault : Fault) → IsErrOf {T = X} (Err fault) Device → IsErrOf {T = Y} (Err fault) Device
error_alike fault is = let same : fault ≡ Device = cc in ap (λ (f : Fault). Err f) same

module _ {D A : Type 0} (g : Ghosts D) (old new : Store D g) where
  -- a call that goes on with the error of another one
  pub same_error : {B : Type 0} (fault : Fault) → ReadsOnly {D = D} {A = B} g old new (Err fault)
      → ReadsOnly {D = D} {A = A} g old new (Err fault)
  same_error {B} fault reads = record {
    leaves = reads.leaves;
    stays = λ other. reads.stays (λ is. other (error_alike {X = B} {Y = A} fault is));
    device = λ is. reads.device (error_alike {X = A} {Y = B} fault is);
  }

  -- one that read, and for which the device did not fail
  pub has_read : (result : Result A Fault) → (IsErrOf result Device → ⊥) → IsStill g old new
      → Leaves (disk_of g old) (disk_of g new) (λ x. x ≡ content_of g old) → ReadsOnly g old new result
  has_read result none still leaves = record {
    leaves = leaves;
    stays = λ other. still;
    device = λ is. absurd (none is);
  }

-- a call that reads nothing, and for which the device did not fail
pub reads_nothing : {D A : Type 0} (g : Ghosts D)
    → ((d : D) (image : Image) → g.keeps_word d → (g.state d).left_since (g.state d).moment image
    → IsImage (g.state d) image) → (store : Store D g) → has_failed store ≡ false → (result : Result A Fault)
    → (IsErrOf result Device → ⊥) → ReadsOnly g store store result
reads_nothing g only store fine result none =
    has_read g store store result none (still_here g store) (leaves_now g only store fine)
