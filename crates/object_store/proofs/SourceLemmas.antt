-- That reads of a store go on from earlier ones.
use Rattle.std.specs.Prelude.{◌≡◌, ℕ, ◌+◌, ◌-◌, ◌^◌, min, false, refl, Result, Ok, Err, MatchResult, IsErrAnd}
use Rattle.std.proofs.Common.{sym, ◌∙◌, ap, subst}
use Rattle.sector_device.specs.declared.device.Sectors.{Ghosts}
use Rattle.sector_device.specs.Device.{Image, IsImage}
use Rattle.cube_model.specs.declared.fault.Fault.{Fault}
use Rattle.object_store.specs.declared.store.Store.{Store}
use Rattle.object_store.specs.Content.{Content}
use Rattle.object_store.specs.Disk.{Leaves, ShowsSome}
use Rattle.object_store.specs.Sourced.{HasOnlyRead, ReadIsRefused, ReadsAfterReads, RefusesAfterReads}
use Rattle.object_store.specs.Store.{content_of, device_of, disk_of, has_failed, IsStill}
use Rattle.object_store.proofs.Moments.{begins, leaves_then, leaves_weaker}
use Rattle.object_store.proofs.Frames.{always_shows}

pub still_here : {D : Type 0} (g : Ghosts D) (store : Store D g) → IsStill g store store
still_here g store =
    record { word = λ w. w; content = λ w. refl; room = refl; sizes = λ id. refl; failed = refl; failures = refl }

pub still_then : {D : Type 0} (g : Ghosts D) (old mid new : Store D g) → IsStill g old mid → IsStill g mid new
    → IsStill g old new
still_then g old mid new first second = record {
  word = λ w. first.word (second.word w);
  content = λ w. second.content w ∙ first.content (second.word w);
  room = second.room ∙ first.room;
  sizes = λ id. second.sizes id ∙ first.sizes id;
  failed = second.failed ∙ first.failed;
  failures = second.failures ∙ first.failures;
}

-- before the first read
pub none_read : {D : Type 0} (g : Ghosts D)
    → ((d : D) (image : Image) → g.keeps_word d → (g.state d).left_since (g.state d).moment image
    → IsImage (g.state d) image) → (store : Store D g) → HasOnlyRead g store store
none_read g only store = record {
  still = still_here g store;
  leaves = λ fine. begins (ShowsSome (λ (c : Content). c ≡ content_of g store)) (disk_of g store)
      (λ w image. only (device_of store) image w) (always_shows g store fine);
}

-- what a later part leaves, said of the content at the start
leaves_later : {D : Type 0} (g : Ghosts D) (old mid new : Store D g) → HasOnlyRead g old mid
    → (has_failed mid ≡ false → Leaves (disk_of g mid) (disk_of g new) (λ c. c ≡ content_of g mid))
    → has_failed old ≡ false → Leaves (disk_of g old) (disk_of g new) (λ c. c ≡ content_of g old)
leaves_later g old mid new first second fine =
    leaves_then (λ (c : Content). c ≡ content_of g old) (disk_of g old) (disk_of g mid) (disk_of g new)
    (first.leaves fine)
    (leaves_weaker (λ (c : Content). c ≡ content_of g mid) (λ (c : Content). c ≡ content_of g old) (disk_of g mid)
    (disk_of g new)
    (λ w c is. is ∙ first.still.content w) (second (first.still.failed ∙ fine)))

-- one run of reads after another
pub reads_on : {D : Type 0} (g : Ghosts D) (old mid new : Store D g) → HasOnlyRead g old mid → HasOnlyRead g mid new
    → HasOnlyRead g old new
reads_on g old mid new first second = record {
  still = still_then g old mid new first.still second.still;
  leaves = leaves_later g old mid new first second.leaves;
}

-- a refusal after a run of reads
pub fails_later : {D : Type 0} (g : Ghosts D) (fault : Fault) (old mid new : Store D g) → HasOnlyRead g old mid
    → ReadIsRefused g fault mid new → ReadIsRefused g fault old new
fails_later g fault old mid new first second = record {
  failed_before = λ is. let before = second.failed_before is in
      (sym first.still.failed ∙ before.0, still_then g old mid new first.still before.1);
  breaks = λ is. let broken = second.breaks is in record {
    before = sym first.still.failed ∙ broken.before;
    failed = broken.failed;
    failures = broken.failures ∙ ap (λ (n : ℕ). min (n + 1) (2 ^ 64 - 1)) first.still.failures;
  };
  leaves = leaves_later g old mid new first second.leaves;
}

-- what only reads, read on
pub as_reads : {D : Type 0} (g : Ghosts D) (old new : Store D g) → HasOnlyRead g old new → ReadsAfterReads g old new
as_reads g old new read = record { now = read; after = λ start before. reads_on g start old new before read }

pub as_refused : {D : Type 0} (g : Ghosts D) (fault : Fault) (old new : Store D g) → ReadIsRefused g fault old new
    → RefusesAfterReads g fault old new
as_refused g fault old new refused =
    record { now = refused; after = λ start before. fails_later g fault start old new before refused }

-- a refusal that is handed on
pub refused_read : {D T : Type 0} (g : Ghosts D) (result : Result T Fault) (fault : Fault) (old new : Store D g)
    → IsErrAnd result (λ own. own ≡ fault) → ReadIsRefused g fault old new
    → MatchResult result (λ _. ReadsAfterReads g old new) (λ own. RefusesAfterReads g own old new)
refused_read g (Ok value) fault old new is refused = absurd is
refused_read g (Err own) fault old new is refused =
    subst (λ (f : Fault). RefusesAfterReads g f old new) (sym is) (as_refused g fault old new refused)
