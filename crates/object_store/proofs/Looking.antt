-- What the two slots and the catalogue of a device say.
use Rattle.std.proofs.Common.{◌≡◌, ◌⊎◌, inl, inr, ℕ, zero, suc, ◌%◌, ◌<◌, ◌≤◌, ◌↔◌, List, Option, Some, None}
use Rattle.std.proofs.Common.{MatchOption, refl, sym, ◌∙◌, ap, subst, arith}
use Rattle.sector_device.specs.Device.{Image, DeviceState, IsSettled, CandidatesStay}
use Rattle.extents.specs.Extents.{AreLaidOut}
use Rattle.superblock.specs.declared.superblock.Super.{Super}
use Rattle.superblock.specs.Superblock.{IsSuperblock}
use Rattle.superblock.specs.Choice.{IsCurrentOf}
use Rattle.superblock.proofs.CallerLemmas.{IsSuperblock-one}
use Rattle.object_store.specs.declared.catalogue.entry.Entry.{Entry}
use Rattle.object_store.specs.Catalogue.{IsCatalogue}
use Rattle.object_store.specs.Content.{Content}
use Rattle.object_store.specs.Places.{bytes_at, used_by}
use Rattle.object_store.specs.Shows.{ShowsBy, Shows, HasNone}
use Rattle.object_store.specs.Ready.{content_from, KeepsLayout, IsReady}
use Rattle.object_store.specs.Reading.{IsNewest, two}
use Rattle.object_store.specs.Found.{IsFound, SpellNoCatalogue, ShowsNothing}
use Rattle.object_store.proofs.Frames.{shows_same}

-- the one that is chosen is the newest
pub chosen_is : (even odd : List ℕ) (first second chosen : Option Super)
    → ((s : Super) → (first ≡ Some s) ↔ IsSuperblock 0 even s)
    → ((s : Super) → (second ≡ Some s) ↔ IsSuperblock 1 odd s) → IsCurrentOf first second chosen
    → MatchOption chosen (HasNone (two even odd)) (IsNewest (two even odd))
chosen_is even odd first second None is_first is_second current = none
  where
    none : (slot : ℕ) → slot < 2 → (super : Super) → IsSuperblock slot (two even odd slot) super → ⊥
    none zero lt super is = current.newest super (inl ((is_first super).1 is))
    none (suc zero) lt super is = current.newest super (inr ((is_second super).1 is))
    none (suc (suc n)) lt super is = absurd (omega (arith, lt))
chosen_is even odd first second (Some c) is_first is_second current =
    record { in_slot = by current.given; newest = newest }
  where
    by : (Some c ≡ first) ⊎ (Some c ≡ second) → IsSuperblock (c.generation % 2) (two even odd (c.generation % 2)) c
    by (inl e) = let is : IsSuperblock 0 even c = (is_first c).0 (sym e) in
        subst (λ (n : ℕ). IsSuperblock n (two even odd n) c) (sym is.in_slot) is
    by (inr e) = let is : IsSuperblock 1 odd c = (is_second c).0 (sym e) in
        subst (λ (n : ℕ). IsSuperblock n (two even odd n) c) (sym is.in_slot) is

    newest : (slot : ℕ) → slot < 2 → (other : Super) → IsSuperblock slot (two even odd slot) other
        → other.generation ≤ c.generation
    newest zero lt other is = current.newest other (inl ((is_first other).1 is))
    newest (suc zero) lt other is = current.newest other (inr ((is_second other).1 is))
    newest (suc (suc n)) lt other is = absurd (omega (arith, lt))

-- the same in another image with these slots
module _ (a b : Image) (same : (slot : ℕ) → slot < 2 → a slot ≡ b slot) where
  pub none_same : HasNone a → HasNone b
  none_same none slot lt super is =
      none slot lt super (subst (λ (x : List ℕ). IsSuperblock slot x super) (sym (same slot lt)) is)

  pub newest_same : (super : Super) → IsNewest a super → IsNewest b super
  newest_same super newest = record {
    in_slot = subst (λ (x : List ℕ). IsSuperblock (super.generation % 2) x super)
        (same (super.generation % 2) (omega arith)) newest.in_slot;
    newest = λ slot lt other is. newest.newest slot lt other
        (subst (λ (x : List ℕ). IsSuperblock slot x other) (sym (same slot lt)) is);
  }

  pub either_same : (chosen : Option Super) → MatchOption chosen (HasNone a) (IsNewest a)
      → MatchOption chosen (HasNone b) (IsNewest b)
  either_same None none = none_same none
  either_same (Some super) newest = newest_same super newest

-- two reads
module _ (s0 s1 s2 : DeviceState) (first : CandidatesStay s0 s1) (second : CandidatesStay s1 s2) where
  pub still_settled : IsSettled s0 → IsSettled s2
  still_settled settled i b may = settled i b (first.no_more i b (second.no_more i b may)) ∙ sym (first.reads i)
      ∙ sym (second.reads i)

  pub slots_are : (even odd : List ℕ) → even ≡ s0.reads 0 → odd ≡ s1.reads 1 → (slot : ℕ) → slot < 2
      → two even odd slot ≡ s2.reads slot
  slots_are even odd is_even is_odd zero lt = is_even ∙ sym (first.reads 0) ∙ sym (second.reads 0)
  slots_are even odd is_even is_odd (suc zero) lt = is_odd ∙ sym (second.reads 1)
  slots_are even odd is_even is_odd (suc (suc n)) lt = absurd (omega (arith, lt))

-- no valid superblock
pub nothing_none : (size : ℕ) (image : Image) → HasNone image → ShowsNothing size image
nothing_none size image none c shows = none (c.generation % 2) (omega arith) shows.0 (shows.2).in_slot

-- a content is shown by the newest superblock
pub newest_shows : (size : ℕ) (image : Image) (super : Super) → IsNewest image super
    → (c : Content) (other : Super) (entries : List Entry) → ShowsBy size image c other entries → super ≡ other
newest_shows size image super newest c other entries shows =
    let above : super.generation ≤ c.generation =
    shows.newest (super.generation % 2) (omega arith) super newest.in_slot in
    let below : other.generation ≤ super.generation =
    newest.newest (c.generation % 2) (omega arith) other shows.in_slot in
    let numbered : other.generation ≡ c.generation = shows.spells.numbered in
    let same : c.generation ≡ super.generation = omega (arith, above, below, numbered) in
    IsSuperblock-one (super.generation % 2) (super.generation % 2) (image (super.generation % 2)) super other
    newest.in_slot
    (subst (λ (n : ℕ). IsSuperblock (n % 2) (image (n % 2)) other) same shows.in_slot)

-- one for a device of another size
pub nothing_sized : (size : ℕ) (image : Image) (super : Super) → IsNewest image super → (super.sectors ≡ size → ⊥)
    → ShowsNothing size image
nothing_sized size image super newest other c shows =
    other (ap (λ (s : Super). s.sectors) (newest_shows size image super newest c shows.0 shows.1 shows.2)
    ∙ (shows.2).spells.sized)

-- one that names no catalogue
pub nothing_spelled : (size : ℕ) (image : Image) (super : Super) → IsNewest image super → super.sectors ≡ size
    → SpellNoCatalogue super (bytes_at image super.catalogue super.bytes) → ShowsNothing size image
nothing_spelled size image super newest sized none c shows =
    let same : super ≡ shows.0 = newest_shows size image super newest c shows.0 shows.1 shows.2 in
    none shows.1 c.root
    (subst (λ (s : Super). IsCatalogue (bytes_at image s.catalogue s.bytes) shows.1 c.root) (sym same)
    (shows.2).spells.spelled)
    (subst (λ (n : ℕ). AreLaidOut n (used_by super shows.1)) (sym sized)
    (subst (λ (s : Super). AreLaidOut size (used_by s shows.1)) (sym same) (shows.2).spells.laid_out))

-- what was found is what the device shows
pub ready_found : (s : DeviceState) (super : Super) (entries : List Entry) (root : List ℕ)
    → KeepsLayout s.size super entries root → IsFound s super entries root → IsReady s super entries root
ready_found s super entries root kept found = record {
  settled = found.settled;
  shows = record {
    in_slot = found.newest.in_slot;
    newest = found.newest.newest;
    spells = record {
      numbered = refl;
      of_layout = refl;
      sized = kept.sized;
      spelled = found.spelled;
      laid_out = kept.laid_out;
      objects = refl;
    };
  };
}

pub shown_before : (s0 s : DeviceState) (super : Super) (entries : List Entry) (root : List ℕ) → s.size ≡ s0.size
    → ((i : ℕ) → s.reads i ≡ s0.reads i) → IsReady s super entries root
    → Shows s0.size s0.reads (content_from s.reads super entries root)
shown_before s0 s super entries root size same ready = (
  super,
  entries,
  subst (λ (n : ℕ). ShowsBy n s0.reads (content_from s.reads super entries root) super entries) size
      (shows_same s.size s.reads s0.reads (content_from s.reads super entries root) super entries ready.shows
      (λ i used. same i)),
)
