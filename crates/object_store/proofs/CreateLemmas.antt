-- What the writes of a creation make of what images show.
use Rattle.std.proofs.Common.{◌≡◌, ◌≢◌, ◌⊎◌, ⊎_elim, inl, inr, ℕ, ◌<◌, ◌≤◌, List, [], length, map, refl, sym, ◌∙◌}
use Rattle.std.proofs.Common.{ap, subst, arith}
use Rattle.std.proofs.lemmas.List.Elements.{All-nil}
use Rattle.sector_device.specs.declared.device.Sectors.{Ghosts}
use Rattle.sector_device.specs.Device.{Image, DeviceState, IsSettled, LeavesOnly}
use Rattle.extents.specs.Extents.{IsInRange}
use Rattle.superblock.specs.declared.superblock.Super.{Super}
use Rattle.superblock.specs.Superblock.{IsSuperblock}
use Rattle.object_store.specs.Catalogue as catalogues
use Rattle.wire.specs.Limits.{most_objects}
use Rattle.object_store.specs.declared.staged.Staged.{Staged}
use Rattle.object_store.specs.Content.{Content}
use Rattle.object_store.specs.Commit.{IsFew, created, put_all, put_each, put_size}
use Rattle.object_store.specs.Shows.{ShowsBy, HasNone}
use Rattle.object_store.specs.DeviceCalls.{ReadsDevice}
use Rattle.object_store.specs.Disk.{disk, Each, IsBlank, LeavesOrNone, OnlyImagesOf, ShowsSomeOrNone}
use Rattle.object_store.proofs.Moments.{passes_then}
use Rattle.object_store.proofs.CallerLemmas.{only_images}
use Rattle.object_store.specs.Ready.{content_from, KeepsLayout, IsReady}
use Rattle.object_store.specs.Publish.{written_by, staged_slot, IsStagedForPuts, IsUnchangedOutside, HasWritten}
use Rattle.object_store.specs.Publish.{IsEither}
use Rattle.object_store.proofs.Extents.{held_in_range}
use Rattle.object_store.proofs.DeviceCalls.{images_of}
use Rattle.object_store.proofs.Looking.{none_same}
use Rattle.object_store.proofs.Committing.{content_is, few_same}
use Rattle.object_store.proofs.After as after

module _ (puts : List (ℕ × List ℕ)) (root : List ℕ) (layout : ℕ) where
  generation_is : (created puts root layout).generation ≡ 1
  unfolding created
  generation_is = refl

  layout_is : (created puts root layout).layout ≡ layout
  unfolding created
  layout_is = refl

  objects_is : (created puts root layout).objects ≡ put_all puts []
  unfolding created
  objects_is = refl

  root_is : (created puts root layout).root ≡ root
  unfolding created
  root_is = refl

  -- as many objects as sizes
  pub few_first : IsFew (created puts root layout) → length (put_each (λ o. o.0) (map put_size puts) []) ≤ most_objects
  few_first few =
      let parts : length (created puts root layout).objects ≡ length (put_all puts []) =
      ap (λ (l : List (ℕ × List ℕ)). length l) objects_is in
      let same : length (put_each (λ o. o.0) (map put_size puts) []) ≡ length (put_all puts []) =
      few_same (λ i. []) [] puts [] in
      omega (arith, few, parts, same)

  -- a staged commit that was written over slots without a superblock
  module _ (s1 : DeviceState) (none : HasNone s1.reads) (staged : Staged)
      (is_staged : IsStagedForPuts s1.size [] [] puts root 1 layout staged) where
    older : (slot : ℕ) → slot < 2 → slot ≢ staged_slot staged → (other : Super)
        → IsSuperblock slot (s1.reads slot) other
        → other.generation ≤ staged.superblock.generation
    older slot lt ne other is = absurd (none slot lt other is)

    shows : (image : Image) → HasWritten staged puts s1.reads image
        → ShowsBy s1.size image (created puts root layout) staged.superblock staged.entries.items
    shows image has =
        after.shows s1.size s1.reads image [] [] puts root 1 layout staged is_staged has (All-nil (IsInRange s1.size))
        (λ i held. held)
        (created puts root layout) generation_is layout_is objects_is root_is older

    none_outside : (image : Image) → IsUnchangedOutside (written_by staged) s1.reads image → HasNone image
    none_outside image outside =
        none_same s1.reads image (λ slot lt. sym (outside slot (λ held.
        let r : (2 ≤ slot) × (slot < s1.size) =
        held_in_range s1.size (written_by staged) is_staged.written.in_range slot held in omega (arith, lt, r.0)))) none

    pub either_shows : (image : Image) → IsEither staged puts s1.reads image
        → ShowsSomeOrNone (λ c. c ≡ created puts root layout) s1.size image
    either_shows image either =
        ⊎_elim (λ outside. inl (none_outside image outside))
        (λ has. inr (created puts root layout, (staged.superblock, staged.entries.items, shows image has), refl)) either

    module _ (s2 : DeviceState) (size : s2.size ≡ s1.size) (settled : IsSettled s2)
        (has : HasWritten staged puts s1.reads s2.reads) where
      objects_after : (content_from s2.reads staged.superblock staged.entries.items staged.root.items).objects
          ≡ put_all puts []
      objects_after = after.objects_are s1.size s1.reads s2.reads [] [] puts root 1 layout staged is_staged has
          (All-nil (IsInRange s1.size)) (λ i held. held)

      pub ready_created : IsReady s2 staged.superblock staged.entries.items staged.root.items
      ready_created = record {
        settled = settled;
        shows = subst
            (λ (n : ℕ). ShowsBy n s2.reads
            (content_from s2.reads staged.superblock staged.entries.items staged.root.items)
            staged.superblock staged.entries.items) (sym size)
            (after.shows s1.size s1.reads s2.reads [] [] puts root 1 layout staged is_staged has
            (All-nil (IsInRange s1.size)) (λ i held. held)
            (content_from s2.reads staged.superblock staged.entries.items staged.root.items) is_staged.numbered
            is_staged.of_layout objects_after is_staged.same_root older);
      }

      pub content_created : content_from s2.reads staged.superblock staged.entries.items staged.root.items
          ≡ created puts root layout
      content_created =
          content_is (content_from s2.reads staged.superblock staged.entries.items staged.root.items)
          (created puts root layout)
          (is_staged.numbered ∙ sym generation_is) (is_staged.of_layout ∙ sym layout_is)
          (objects_after ∙ sym objects_is)
          (is_staged.same_root ∙ sym root_is)

-- what is kept in memory
pub kept_created : (sectors size : ℕ) (puts : List (ℕ × List ℕ)) (root : List ℕ) (layout : ℕ) (staged : Staged)
    → sectors ≡ size → IsStagedForPuts sectors [] [] puts root 1 layout staged
    → KeepsLayout size staged.superblock staged.entries.items staged.root.items
kept_created sectors size puts root layout staged same is_staged =
    subst (λ (n : ℕ). KeepsLayout n staged.superblock staged.entries.items staged.root.items) same (record {
      sized = is_staged.sized;
      proper = is_staged.proper;
      proper_catalogue =
          subst (λ (r : List ℕ). catalogues.IsProperCatalogue staged.entries.items r) (sym is_staged.same_root)
          is_staged.spelled.proper;
      laid_out = is_staged.laid_out;
    })

-- a device that was only read
module _ {D : Type 0} (g : Ghosts D) (d0 d1 : D) (reads : ReadsDevice g d0 d1) where
  pub still_blank : Each (disk g d0) IsBlank → Each (disk g d1) IsBlank
  still_blank blank w image is =
      blank (reads.word w) image (λ i. (reads.only w).no_more i (image i) (λ none. none) (is i))

  pub looked : (P : Content → Type 0) → Each (disk g d0) IsBlank → LeavesOrNone (disk g d0) (disk g d1) P
  looked P blank = only_images (ShowsSomeOrNone P) (disk g d0) (disk g d1) (images_of g d0 d1 reads)
      (λ w image is. inl (blank w image is))

  -- where no valid superblock is read, none was read before
  pub none_before : g.keeps_word d1 → HasNone (g.state d1).reads → HasNone (g.state d0).reads
  none_before w none = none_same (g.state d1).reads (g.state d0).reads
      (λ slot lt. (reads.only w).others slot (λ none. none)) none

  -- and then the writes of a creation
  module _ (d2 : D) (word : g.keeps_word d2 → g.keeps_word d1) (size : (g.state d2).size ≡ (g.state d1).size) where
    -- over a valid superblock there are none
    pub spared : (g.keeps_word d1 → HasNone (g.state d1).reads) → (HasNone (g.state d0).reads → ⊥)
        → OnlyImagesOf (disk g d0) (disk g d2)
    spared none formatted = record {
      word = λ w. reads.word (word w);
      size = λ w. size ∙ reads.size;
      moments = λ w. absurd (formatted (none_before (word w) (none (word w))));
    }

    pub created_or_looked : (P : Content → Type 0)
        → (d2 ≡ d1) ⊎ (g.keeps_word d2 → LeavesOnly (g.state d1) (g.state d2) (ShowsSomeOrNone P (g.state d1).size))
        → Each (disk g d0) IsBlank → LeavesOrNone (disk g d0) (disk g d2) P
    created_or_looked P moments blank =
        ⊎_elim (λ same. subst (λ (d : D). LeavesOrNone (disk g d0) (disk g d) P) (sym same) (looked P blank))
        (λ written. passes_then (ShowsSomeOrNone P) (disk g d0) (disk g d1) (disk g d2) (looked P blank) (record {
          word = word;
          size = λ w. size;
          moments = written;
        })) moments

  -- an image still has no valid superblock where it was not called again
  pub blank_where_same : (d2 : D) → d2 ≡ d1 → Each (disk g d0) IsBlank → Each (disk g d2) IsBlank
  blank_where_same d2 same blank = subst (λ (d : D). Each (disk g d) IsBlank) (sym same) (still_blank blank)
