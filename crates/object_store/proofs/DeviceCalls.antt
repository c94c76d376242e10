-- What calls leave of a device, one after another.
use Rattle.std.proofs.Common.{◌∙◌, ℕ}
use Rattle.sector_device.specs.declared.device.Sectors.{Ghosts}
use Rattle.sector_device.proofs.Moments.{leaves_also}
use Rattle.sector_device.proofs.WriteRuns.{within_more, within_then}
use Rattle.object_store.specs.Disk.{disk, OnlyImagesOf}
use Rattle.object_store.specs.DeviceCalls.{WritesDevice, ReadsDevice}

module _ {D : Type 0} (g : Ghosts D) where
  -- writes within a set are within each set that has its sectors
  pub writes_more : (Within More : ℕ → Type 0) (old new : D) → ((i : ℕ) → Within i → More i)
      → WritesDevice g Within old new → WritesDevice g More old new
  writes_more Within More old new so writes = record {
    size = writes.size;
    word = writes.word;
    only = λ w. within_more Within More (g.state old) (g.state new) so (writes.only w);
  }

  -- one run of writes after another
  pub writes_then : (Within Part : ℕ → Type 0) (old mid new : D) → ((i : ℕ) → Part i → Within i)
      → WritesDevice g Within old mid → WritesDevice g Part mid new → WritesDevice g Within old new
  writes_then Within Part old mid new so first second = record {
    size = second.size ∙ first.size;
    word = λ w. first.word (second.word w);
    only = λ w. within_then Within Part (g.state old) (g.state mid) (g.state new) so (first.only (second.word w))
        (second.only w);
  }

  -- one run of reads after another
  pub reads_then : (old mid new : D) → ReadsDevice g old mid → ReadsDevice g mid new → ReadsDevice g old new
  reads_then old mid new = writes_then (λ _. ⊥) (λ _. ⊥) old mid new (λ i none. none)

  -- each image at any moment of a run of reads is one of those at the start
  pub images_of : (old new : D) → ReadsDevice g old new → OnlyImagesOf (disk g old) (disk g new)
  images_of old new reads = record {
    word = reads.word;
    size = λ w. reads.size;
    moments = λ w. leaves_also (g.state old) (g.state new) _ _ (λ image held i. held i (λ none. none))
        (reads.only w).leaves;
  }
