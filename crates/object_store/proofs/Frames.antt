-- Which sectors what an image shows depends on. Our own.
use Rattle.std.specs.Prelude.{◌≡◌, ◌⊎◌, ℕ, zero, suc, ◌+◌, ◌%◌, ◌<◌, ◌≤◌, false, List, [], ◌∷◌, ◌++◌, take, refl}
use Rattle.std.proofs.Common.{inl, inr, sym, ◌∙◌, ap, subst, arith}
use Rattle.sector_device.specs.declared.device.Sectors.{Ghosts}
use Rattle.sector_device.specs.Device.{Image, DeviceState, IsImage}
use Rattle.extents.specs.Extents.{Holds, SomeHolds}
use Rattle.superblock.specs.declared.superblock.Super.{Super}
use Rattle.superblock.specs.Superblock.{sectors_of, IsSuperblock}
use Rattle.object_store.specs.declared.catalogue.entry.Entry.{Entry}
use Rattle.object_store.specs.Catalogue as catalogues
use Rattle.object_store.specs.Content.{Content}
use Rattle.object_store.specs.Places.{sectors_bytes, bytes_at, extent_of, extents_of, object_at, objects_at, used_by}
use Rattle.object_store.specs.Shows.{Spells, ShowsBy, Shows}
use Rattle.object_store.specs.Ready.{content_from, IsReady}
use Rattle.object_store.specs.Disk.{AllShow}
use Rattle.object_store.specs.Store.{content_of, disk_of, has_failed}
use Rattle.object_store.specs.declared.store.Store.{Store}

run_same : (a b : Image) (at n : ℕ) → ((i : ℕ) → at ≤ i → i < at + n → a i ≡ b i)
    → sectors_bytes a at n ≡ sectors_bytes b at n
run_same a b at zero same = refl
run_same a b at (suc n) same =
    ap (λ (x : List ℕ). x ++ sectors_bytes a (suc at) n) (same at (omega arith) (omega arith))
    ∙ ap (λ (x : List ℕ). b at ++ x)
    (run_same a b (suc at) n (λ i low high. same i (omega (arith, low)) (omega (arith, high))))

pub bytes_same : (a b : Image) (first bytes : ℕ) → ((i : ℕ) → Holds (extent_of first bytes) i → a i ≡ b i)
    → bytes_at a first bytes ≡ bytes_at b first bytes
bytes_same a b first bytes same =
    ap (λ (x : List ℕ). take bytes x) (run_same a b first (sectors_of bytes) (λ i low high. same i (low, high)))

pub objects_same : (a b : Image) (entries : List Entry) → ((i : ℕ) → SomeHolds (extents_of entries) i → a i ≡ b i)
    → objects_at a entries ≡ objects_at b entries
objects_same a b [] same = refl
objects_same a b (e ∷ entries) same =
    ap (λ (x : List ℕ). (e.id, x) ∷ objects_at a entries) (bytes_same a b e.first e.bytes (λ i at. same i (inl at)))
    ∙ ap (λ (x : List (ℕ × List ℕ)). object_at b e ∷ x) (objects_same a b entries (λ i at. same i (inr at)))

-- a catalogue spells the same in images that agree on the sectors in use
pub spells_same : (size : ℕ) (a b : Image) (c : Content) (super : Super) (entries : List Entry)
    → Spells size a c super entries → ((i : ℕ) → SomeHolds (used_by super entries) i → a i ≡ b i)
    → Spells size b c super entries
spells_same size a b c super entries spells same = record {
  numbered = spells.numbered;
  of_layout = spells.of_layout;
  sized = spells.sized;
  spelled = subst (λ (x : List ℕ). catalogues.IsCatalogue x entries c.root)
      (bytes_same a b super.catalogue super.bytes (λ i at. same i (inl at))) spells.spelled;
  laid_out = spells.laid_out;
  objects = spells.objects ∙ objects_same a b entries (λ i at. same i (inr at));
}

-- two images that agree on the slots and on the sectors in use show the same
pub shows_same : (size : ℕ) (a b : Image) (c : Content) (super : Super) (entries : List Entry)
    → ShowsBy size a c super entries → ((i : ℕ) → (i < 2) ⊎ SomeHolds (used_by super entries) i → a i ≡ b i)
    → ShowsBy size b c super entries
shows_same size a b c super entries shows same = record {
  in_slot = subst (λ (x : List ℕ). IsSuperblock (c.generation % 2) x super)
      (same (c.generation % 2) (inl (omega arith))) shows.in_slot;
  newest = λ slot lt other is. shows.newest slot lt other
      (subst (λ (x : List ℕ). IsSuperblock slot x other) (sym (same slot (inl lt))) is);
  spells = spells_same size a b c super entries shows.spells (λ i used. same i (inr used));
}

-- on a device where each sector has one candidate, every image shows the content
pub ready_shows : (s : DeviceState) (super : Super) (entries : List Entry) (root : List ℕ)
    → IsReady s super entries root → (image : Image) → IsImage s image
    → Shows s.size image (content_from s.reads super entries root)
ready_shows s super entries root ready image is = (
  super,
  entries,
  shows_same s.size s.reads image (content_from s.reads super entries root) super entries ready.shows
      (λ i used. sym (ready.settled i (image i) (is i))),
)

-- while a store has not failed, every image shows its content
pub always_shows : {D : Type 0} (g : Ghosts D) (store : Store D g) → has_failed store ≡ false
    → AllShow (disk_of g store) (λ c. c ≡ content_of g store)
always_shows g store fine w image is = (
  content_of g store,
  ready_shows (g.state store.device) store.superblock store.entries.items store.root.items
      (store.ready fine w) image is,
  refl,
)
