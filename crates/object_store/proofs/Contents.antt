-- The objects of a content, as entries and as bytes.
use Rattle.std.proofs.Common.{◌≡◌, ℕ, ◌+◌, ◌*◌, ◌<◌, ◌≤◌, true, false, cond, eqb, List, [], ◌∷◌, length}
use Rattle.std.proofs.Common.{take, drop, Option, Some, None, option_map, IsSomeAnd, refl, sym, ◌∙◌, ap, subst, arith}
use Rattle.std.specs.List.{All}
use Rattle.std.proofs.lemmas.List.{length-take-le}
use Rattle.std.proofs.lemmas.List.Elements.{All-head, All-tail}
use Rattle.sector_device.specs.declared.device.Sectors.{Ghosts}
use Rattle.sector_device.specs.Device.{Image}
use Rattle.extents.specs.Extents.{IsInRange, AreLaidOut}
use Rattle.wire.specs.Parts.{Gives}
use Rattle.superblock.specs.declared.superblock.Super.{Super}
use Rattle.superblock.specs.Superblock.{sectors_of}
use Rattle.object_store.specs.declared.catalogue.entry.Entry.{Entry}
use Rattle.object_store.specs.Content.{look_up}
use Rattle.object_store.specs.Commit.{find_by}
use Rattle.object_store.proofs.Pieces.{length_run}
use Rattle.object_store.specs.Places.{sectors_bytes, bytes_at, extent_of, extents_of, objects_at, used_by}
use Rattle.object_store.specs.DeviceCalls.{ReadsDevice}
use Rattle.object_store.specs.Disk.{disk, Leaves, ShowsSome}
use Rattle.object_store.proofs.CallerLemmas.{only_images}
use Rattle.object_store.specs.Ready.{content_from, IsReady}
use Rattle.object_store.proofs.DeviceCalls.{images_of}
use Rattle.object_store.proofs.Lists.{All-unmap}
use Rattle.object_store.proofs.Frames.{objects_same, ready_shows}

-- what is at an id is what its entry names
pub look_up_at : (image : Image) (entries : List Entry) (id : ℕ)
    → look_up id (objects_at image entries) ≡ option_map (λ e. bytes_at image e.first e.bytes)
    (find_by (λ e. e.id) id entries)
look_up_at image [] id = refl
look_up_at image (e ∷ entries) id =
    elim (eqb e.id id) as (λ v. cond v (Some (bytes_at image e.first e.bytes)) (look_up id (objects_at image entries))
    ≡ option_map (λ (x : Entry). bytes_at image x.first x.bytes)
    (cond v (Some e) (find_by (λ (x : Entry). x.id) id entries)))
    [ true ↦ refl | false ↦ look_up_at image entries id ]

some_one : (a b : Entry) → Some a ≡ Some b → a ≡ b
some_one a b e = cc

none_some : (e : Entry) → ◌≡◌ {A = Option Entry} None (Some e) → ⊥
none_some e same = cc

-- what holds of each entry holds of the one that is found
pub found_all : (P : Entry → Type 0) (id : ℕ) (entries : List Entry) (e : Entry)
    → find_by (λ x. x.id) id entries ≡ Some e → All P entries → P e
found_all P id [] e is all = absurd (none_some e is)
found_all P id (x ∷ entries) e is all =
    (elim (eqb x.id id) as (λ v. cond v (Some x) (find_by (λ (y : Entry). y.id) id entries) ≡ Some e → P e) [
      | true ↦ λ here. subst P (some_one x e here) (All-head P x entries all)
      | false ↦ λ there. found_all P id entries e
          there (All-tail P x entries all)
    ]) is

-- its sectors lie within the device
pub found_range : (size id : ℕ) (super : Super) (entries : List Entry) (e : Entry)
    → find_by (λ x. x.id) id entries ≡ Some e → AreLaidOut size (used_by super entries)
    → IsInRange size (extent_of e.first e.bytes)
found_range size id super entries e is laid =
    found_all (λ (x : Entry). IsInRange size (extent_of x.first x.bytes)) id entries e is
    (All-unmap (IsInRange size) (λ (x : Entry). extent_of x.first x.bytes) entries
    (All-tail (IsInRange size) (extent_of super.catalogue super.bytes) (extents_of entries) laid.in_range))

-- so many bytes are there
pub length_bytes_at : (image : Image) (first bytes size : ℕ) → IsInRange size (extent_of first bytes)
    → ((i : ℕ) → i < size → length (image i) ≡ 512) → length (bytes_at image first bytes) ≡ bytes
length_bytes_at image first bytes size in_range whole =
    let ends = in_range.ends in
    let run : length (sectors_bytes image first (sectors_of bytes)) ≡ sectors_of bytes * 512 =
    length_run image first (sectors_of bytes) (λ k lt. whole (first + k) (omega (arith, lt, ends))) in
    length-take-le bytes (sectors_bytes image first (sectors_of bytes)) (omega (arith, run))

-- an object's bytes, and how many they are
module _ (image : Image) (entries : List Entry) (id : ℕ) where
  pub bytes_none : find_by (λ e. e.id) id entries ≡ None → look_up id (objects_at image entries) ≡ None
  bytes_none is = look_up_at image entries id
      ∙ ap (λ (o : Option Entry). option_map (λ (e : Entry). bytes_at image e.first e.bytes) o) is

  pub bytes_some : (e : Entry) → find_by (λ e. e.id) id entries ≡ Some e
      → look_up id (objects_at image entries) ≡ Some (bytes_at image e.first e.bytes)
  bytes_some e is = look_up_at image entries id
      ∙ ap (λ (o : Option Entry). option_map (λ (x : Entry). bytes_at image x.first x.bytes) o) is

  pub gives_part : (e : Entry) (at n : ℕ) (part : List ℕ) → find_by (λ e. e.id) id entries ≡ Some e → length part ≡ n
      → part ≡ take n (drop at (bytes_at image e.first e.bytes)) → Gives (look_up id (objects_at image entries)) at part
  gives_part e at n part is long same =
      subst (λ (o : Option (List ℕ)). Gives o at part) (sym (bytes_some e is))
      (same ∙ ap (λ (k : ℕ). take k (drop at (bytes_at image e.first e.bytes))) (sym long))

-- whether a range lies within an object
module _ (image : Image) (entries : List Entry) (id at len : ℕ) where
  abbrev pub IsWithin : Type 0
  IsWithin = IsSomeAnd (look_up id (objects_at image entries)) (λ bytes. at + len ≤ length bytes)

  pub none_within : find_by (λ e. e.id) id entries ≡ None → IsWithin → ⊥
  none_within is within =
      subst (λ (o : Option (List ℕ)). IsSomeAnd o (λ bytes. at + len ≤ length bytes)) (bytes_none image entries id is)
      within

  module _ (e : Entry) (is : find_by (λ x. x.id) id entries ≡ Some e)
      (long : length (bytes_at image e.first e.bytes) ≡ e.bytes) where
    pub is_within : at + len ≤ e.bytes → IsWithin
    is_within le =
        subst (λ (o : Option (List ℕ)). IsSomeAnd o (λ bytes. at + len ≤ length bytes))
        (sym (bytes_some image entries id e is)) (omega (arith, le, long))

    pub from_within : IsWithin → at + len ≤ e.bytes
    from_within within =
        let le : at + len ≤ length (bytes_at image e.first e.bytes) =
        subst (λ (o : Option (List ℕ)). IsSomeAnd o (λ bytes. at + len ≤ length bytes))
        (bytes_some image entries id e is) within in
        omega (arith, le, long)

-- what its entry says lies within it
pub within_entry : (image : Image) (entries : List Entry) (id at len size : ℕ) (super : Super)
    → AreLaidOut size (used_by super entries) → ((i : ℕ) → i < size → length (image i) ≡ 512)
    → IsSomeAnd (option_map (λ e. e.bytes) (find_by (λ e. e.id) id entries)) (λ total. at + len ≤ total)
    → IsWithin image entries id at len
within_entry image entries id at len size super laid whole = by (find_by (λ (e : Entry). e.id) id entries) refl
  where
    by : (o : Option Entry) → find_by (λ e. e.id) id entries ≡ o
        → IsSomeAnd (option_map (λ (e : Entry). e.bytes) o) (λ total. at + len ≤ total)
        → IsWithin image entries id at len
    by None is within = absurd within
    by (Some e) is within =
        is_within image entries id at len e is
        (length_bytes_at image e.first e.bytes size (found_range size id super entries e is laid) whole) within

-- a device that was only read
module _ {D : Type 0} (g : Ghosts D) (old new : D) (reads : ReadsDevice g old new) (super : Super)
    (entries : List Entry) (root : List ℕ) where
  pub content_read : g.keeps_word new
      → content_from (g.state new).reads super entries root ≡ content_from (g.state old).reads super entries root
  content_read w =
      ap (λ (o : List (ℕ × List ℕ)). record {
        generation = super.generation;
        layout = super.layout;
        objects = o;
        root = root;
      }) (objects_same (g.state new).reads (g.state old).reads entries
      (λ i held. (reads.only w).others i (λ none. none)))

  pub read_leaves : (g.keeps_word old → IsReady (g.state old) super entries root)
      → Leaves (disk g old) (disk g new) (λ c. c ≡ content_from (g.state old).reads super entries root)
  read_leaves ready =
      only_images (ShowsSome (λ c. c ≡ content_from (g.state old).reads super entries root)) (disk g old) (disk g new)
      (images_of g old new reads) (λ w image is. (
        content_from (g.state old).reads super entries root,
        ready_shows (g.state old) super entries root (ready w) image is,
        refl,
      ))
