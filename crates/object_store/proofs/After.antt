-- What an image shows once all that is staged is written.
use Rattle.std.proofs.Common.{◌≡◌, ◌≢◌, ◌⊎◌, inl, inr, ℕ, ◌%◌, ◌<◌, ◌≤◌, List, refl, sym, ◌∙◌, ap, subst, arith}
use Rattle.std.specs.List.{All}
use Rattle.std.proofs.lemmas.Bool.{cases_eq}
use Rattle.sector_device.specs.Device.{Image}
use Rattle.extents.specs.declared.extent.Extent.{Extent}
use Rattle.extents.specs.Extents.{SomeHolds, IsInRange}
use Rattle.superblock.specs.declared.superblock.Super.{Super}
use Rattle.superblock.specs.Superblock.{sector_of, IsSuperblock}
use Rattle.superblock.proofs.CallerLemmas.{IsSuperblock-one}
use Rattle.object_store.specs.declared.catalogue.entry.Entry.{Entry}
use Rattle.object_store.specs.Catalogue as catalogues
use Rattle.object_store.specs.declared.staged.Staged.{Staged}
use Rattle.object_store.specs.Content.{Content}
use Rattle.object_store.specs.Commit.{put_all}
use Rattle.object_store.specs.Places.{bytes_at, extents_of, object_at, objects_at}
use Rattle.object_store.specs.Shows.{Spells, ShowsBy}
use Rattle.object_store.specs.Publish.{written_by, staged_slot, IsStagedForPuts, HasWritten}
use Rattle.object_store.proofs.Lists.{map-put_each}
use Rattle.object_store.proofs.Extents.{held_in_range}
use Rattle.object_store.proofs.Frames.{objects_same}

module _ (size : ℕ) (was image : Image) (used : List Extent) (kept : List Entry) (puts : List (ℕ × List ℕ))
    (root : List ℕ) (generation layout : ℕ) (staged : Staged)
    (is_staged : IsStagedForPuts size used kept puts root generation layout staged)
    (has : HasWritten staged puts was image)
    (in_range : All (IsInRange size) used) (in_use : (i : ℕ) → SomeHolds (extents_of kept) i → SomeHolds used i) where
  -- a sector in use is as it was
  still : (i : ℕ) → SomeHolds used i → image i ≡ was i
  still i held =
      let r : (2 ≤ i) × (i < size) = held_in_range size used in_range i held in
      has.others i (λ written. is_staged.apart i written held) (λ e. omega (arith, e, r.0))

  pub objects_are : objects_at image staged.entries.items ≡ put_all puts (objects_at was kept)
  objects_are =
      ap (λ (l : List Entry). objects_at image l) is_staged.entries
      ∙ map-put_each (object_at image) (λ (e : Entry). e.id) (λ (o : ℕ × List ℕ). o.0) (λ e. refl) staged.placed.items
      kept
      ∙ ap (λ (l : List (ℕ × List ℕ)). put_all l (objects_at image kept)) has.objects
      ∙ ap (λ (l : List (ℕ × List ℕ)). put_all puts l) (objects_same image was kept (λ i held. still i (in_use i held)))

  module _ (c : Content) (numbered : c.generation ≡ generation) (of_layout : c.layout ≡ layout)
      (objects : c.objects ≡ put_all puts (objects_at was kept)) (rooted : c.root ≡ root) where
    spells : Spells size image c staged.superblock staged.entries.items
    spells = record {
      numbered = is_staged.numbered ∙ sym numbered;
      of_layout = is_staged.of_layout ∙ sym of_layout;
      sized = is_staged.sized;
      spelled = subst
          (λ (r : List ℕ). catalogues.IsCatalogue (bytes_at image staged.superblock.catalogue staged.superblock.bytes)
          staged.entries.items r) (sym rooted)
          (subst (λ (x : List ℕ). catalogues.IsCatalogue x staged.entries.items root) (sym has.catalogue)
          is_staged.spelled);
      laid_out = is_staged.laid_out;
      objects = objects ∙ sym objects_are;
    }

    -- where each other valid superblock is of an earlier generation
    pub shows : ((slot : ℕ) → slot < 2 → slot ≢ staged_slot staged → (other : Super)
        → IsSuperblock slot (was slot) other
        → other.generation ≤ staged.superblock.generation) → ShowsBy size image c staged.superblock staged.entries.items
    shows older = record {
      in_slot = subst (λ (n : ℕ). IsSuperblock (n % 2) (image (n % 2)) staged.superblock)
          (is_staged.numbered ∙ sym numbered)
          (record { spelled = has.block; proper = is_staged.proper; in_slot = refl });
      newest = λ slot lt other is. newest slot lt other is (cases_eq slot (staged_slot staged));
      spells = spells;
    }
      where
        newest : (slot : ℕ) → slot < 2 → (other : Super) → IsSuperblock slot (image slot) other
            → (slot ≡ staged_slot staged)
            ⊎ (slot ≡ staged_slot staged → ⊥) → other.generation ≤ c.generation
        newest slot lt other is (inl e) =
            let here : IsSuperblock slot (sector_of staged.superblock) other =
            subst (λ (x : List ℕ). IsSuperblock slot x other) (ap image e ∙ has.block) is in
            let own : IsSuperblock (staged_slot staged) (sector_of staged.superblock) staged.superblock =
            record { spelled = refl; proper = is_staged.proper; in_slot = refl } in
            let same : other ≡ staged.superblock =
            IsSuperblock-one slot (staged_slot staged) (sector_of staged.superblock) other staged.superblock here own in
            omega (arith, ap (λ (s : Super). s.generation) same, is_staged.numbered, numbered)
        newest slot lt other is (inr ne) =
            let as_it_was : image slot ≡ was slot =
            has.others slot
            (λ written. let r : (2 ≤ slot)
            × (slot < size) = held_in_range size (written_by staged) is_staged.written.in_range slot written in
            omega (arith, lt, r.0)) ne in
            omega (
              arith,
              older slot lt ne other (subst (λ (x : List ℕ). IsSuperblock slot x other) as_it_was is),
              is_staged.numbered,
              numbered,
            )
