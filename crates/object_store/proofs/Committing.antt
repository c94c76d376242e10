-- What the writes of a commit make of what images show.
use Rattle.std.proofs.Common.{◌≡◌, ◌≢◌, ⊎_elim, inl, inr, ℕ, ◌+◌, ◌<◌, ◌≤◌, List, [], ◌∷◌, length, map, refl, sym, ◌∙◌}
use Rattle.std.proofs.Common.{ap, subst, arith}
use Rattle.std.proofs.lemmas.List.{length-map}
use Rattle.sector_device.specs.Device.{Image, DeviceState, IsSettled, LeavesOnly}
use Rattle.sector_device.proofs.Moments.{leaves_also}
use Rattle.extents.specs.Extents.{SomeHolds}
use Rattle.superblock.specs.declared.superblock.Super.{Super}
use Rattle.superblock.specs.Superblock.{IsSuperblock}
use Rattle.object_store.specs.declared.catalogue.entry.Entry.{Entry}
use Rattle.object_store.specs.Catalogue as catalogues
use Rattle.object_store.specs.declared.staged.Staged.{Staged}
use Rattle.object_store.specs.Content.{Content}
use Rattle.object_store.specs.Commit.{IsFew, committed, put_all, drop_all, put_each, drop_each, put_size}
use Rattle.object_store.specs.Places.{extents_of, object_at, objects_at, size_at, sizes_at, used_by}
use Rattle.object_store.specs.Shows.{ShowsBy}
use Rattle.object_store.specs.Disk.{Disk, ShowsSome, Leaves}
use Rattle.object_store.specs.Room.{LacksPlaces, LacksRoom, sectors_asked_for, empty_room}
use Rattle.wire.specs.Limits.{most_objects}
use Rattle.extents.specs.declared.extent.Extent.{Extent}
use Rattle.object_store.specs.Ready.{content_from, KeepsLayout, IsReady}
use Rattle.object_store.specs.Publish.{written_by, staged_slot, IsStagedForPuts, IsUnchangedOutside, HasWritten}
use Rattle.object_store.specs.Publish.{IsEither}
use Rattle.object_store.specs.Store.{IsOneOf}
use Rattle.object_store.proofs.Lists.{map-put_each, map-drop_each}
use Rattle.object_store.proofs.Extents.{held_drop_each}
use Rattle.object_store.proofs.Frame.{shows_outside}
use Rattle.object_store.proofs.After as after

-- a content is its parts
pub content_is : (c d : Content) → c.generation ≡ d.generation → c.layout ≡ d.layout → c.objects ≡ d.objects
    → c.root ≡ d.root → c ≡ d
content_is c d generation layout objects root =
    ap (λ (n : ℕ). record { generation = n; layout = c.layout; objects = c.objects; root = c.root }) generation
    ∙ ap (λ (n : ℕ). record { generation = d.generation; layout = n; objects = c.objects; root = c.root }) layout
    ∙ ap (λ (o : List (ℕ × List ℕ)). record {
      generation = d.generation;
      layout = d.layout;
      objects = o;
      root = c.root;
    }) objects
    ∙ ap (λ (r : List ℕ). record { generation = d.generation; layout = d.layout; objects = d.objects; root = r }) root

-- the parts of the content that a commit makes
module _ (puts : List (ℕ × List ℕ)) (drops root : List ℕ) (layout : ℕ) (c : Content) where
  pub generation_is : (committed puts drops root layout c).generation ≡ c.generation + 1
  unfolding committed
  generation_is = refl

  pub layout_is : (committed puts drops root layout c).layout ≡ layout
  unfolding committed
  layout_is = refl

  pub objects_is : (committed puts drops root layout c).objects ≡ put_all puts (drop_all drops c.objects)
  unfolding committed
  objects_is = refl

  pub root_is : (committed puts drops root layout c).root ≡ root
  unfolding committed
  root_is = refl

-- whichever the bytes, there are as many objects
pub few_same : (image : Image) (entries : List Entry) (puts : List (ℕ × List ℕ)) (drops : List ℕ)
    → length (put_each (λ o. o.0) (map put_size puts) (sizes_at (drop_each (λ e. e.id) drops entries)))
    ≡ length (put_all puts (drop_all drops (objects_at image entries)))
few_same image entries puts drops =
    let key : ℕ × List ℕ → ℕ = λ o. o.0 in
    let sizes : List (ℕ × ℕ) =
    put_each (λ o. o.0) (map put_size puts) (sizes_at (drop_each (λ e. e.id) drops entries)) in
    let ids : List ℕ = put_each (λ n. n) (map (λ o. o.0) puts) (drop_each (λ n. n) drops (map (λ e. e.id) entries)) in
    let of_sizes : map (λ o. o.0) sizes ≡ ids =
    map-put_each (λ (o : ℕ × ℕ). o.0) (λ (o : ℕ × ℕ). o.0) (λ (n : ℕ). n) (λ o. refl) (map put_size puts)
    (sizes_at (drop_each (λ e. e.id) drops entries))
    ∙ ap (λ (l : List ℕ). put_each (λ n. n) l (map (λ o. o.0) (sizes_at (drop_each (λ e. e.id) drops entries))))
    (twice put_size (λ (o : ℕ × ℕ). o.0) puts)
    ∙ ap (λ (l : List ℕ). put_each (λ n. n) (map (λ o. o.0) puts) l)
    (twice size_at (λ (o : ℕ × ℕ). o.0) (drop_each (λ e. e.id) drops entries)
    ∙ map-drop_each (λ (e : Entry). e.id) (λ (e : Entry). e.id) (λ (n : ℕ). n) (λ e. refl) drops entries) in
    let of_objects : map (λ o. o.0) (put_all puts (drop_all drops (objects_at image entries))) ≡ ids =
    map-put_each (λ (o : ℕ × List ℕ). o.0) (λ (o : ℕ × List ℕ). o.0) (λ (n : ℕ). n) (λ o. refl) puts
    (drop_all drops (objects_at image entries))
    ∙ ap (λ (l : List ℕ). put_each (λ n. n) (map (λ o. o.0) puts) l)
    (map-drop_each (λ (o : ℕ × List ℕ). o.0) (λ (o : ℕ × List ℕ). o.0) (λ (n : ℕ). n) (λ o. refl) drops
    (objects_at image entries)
    ∙ ap (λ (l : List ℕ). drop_each (λ n. n) drops l) (twice (object_at image) (λ (o : ℕ × List ℕ). o.0) entries)) in
    sym (length-map sizes (λ (o : ℕ × ℕ). o.0)) ∙ ap (λ (l : List ℕ). length l) (of_sizes ∙ sym of_objects)
    ∙ length-map (put_all puts (drop_all drops (objects_at image entries))) (λ (o : ℕ × List ℕ). o.0)
  where
    twice : {A B C : Type 0} (f : A → B) (h : B → C) (l : List A) → map h (map f l) ≡ map (λ x. h (f x)) l
    twice f h [] = refl
    twice {A} {B} {C} f h (x ∷ l) = ap (λ (r : List C). h (f x) ∷ r) (twice f h l)

-- a commit, from a device that shows a content
module _ (s0 : DeviceState) (super : Super) (entries : List Entry) (root0 : List ℕ)
    (kept : KeepsLayout s0.size super entries root0)
    (puts : List (ℕ × List ℕ)) (drops root : List ℕ) (layout : ℕ) (staged : Staged)
    (is_staged : IsStagedForPuts super.sectors (used_by super entries) (drop_each (λ e. e.id) drops entries) puts root
    (super.generation + 1) layout staged) where
  abbrev pub c0 : Content
  c0 = content_from s0.reads super entries root0

  staged_here : IsStagedForPuts s0.size (used_by super entries) (drop_each (λ e. e.id) drops entries) puts root
      (super.generation + 1) layout staged
  staged_here =
      subst (λ (n : ℕ). IsStagedForPuts n (used_by super entries) (drop_each (λ e. e.id) drops entries) puts root
      (super.generation + 1) layout staged) kept.sized is_staged

  in_use : (i : ℕ) → SomeHolds (extents_of (drop_each (λ e. e.id) drops entries)) i
      → SomeHolds (used_by super entries) i
  in_use i held = inr (held_drop_each (λ (e : Entry). e.id) drops entries i held)

  left : objects_at s0.reads (drop_each (λ e. e.id) drops entries) ≡ drop_all drops (objects_at s0.reads entries)
  left = map-drop_each (object_at s0.reads) (λ (e : Entry). e.id) (λ (o : ℕ × List ℕ). o.0) (λ e. refl) drops entries

  -- what is kept in memory afterwards
  pub kept_after : (size : ℕ) → size ≡ s0.size
      → KeepsLayout size staged.superblock staged.entries.items staged.root.items
  kept_after size same = subst (λ (n : ℕ). KeepsLayout n staged.superblock staged.entries.items staged.root.items)
      (sym same)
      (record {
        sized = staged_here.sized;
        proper = staged_here.proper;
        proper_catalogue =
            subst (λ (r : List ℕ). catalogues.IsProperCatalogue staged.entries.items r) (sym staged_here.same_root)
            staged_here.spelled.proper;
        laid_out = staged_here.laid_out;
      })

  module _ (ready : IsReady s0 super entries root0) where
    older : (slot : ℕ) → slot < 2 → slot ≢ staged_slot staged → (other : Super)
        → IsSuperblock slot (s0.reads slot) other
        → other.generation ≤ staged.superblock.generation
    older slot lt ne other is =
        let before : other.generation ≤ super.generation = ready.shows.newest slot lt other is in
        let numbered : staged.superblock.generation ≡ super.generation + 1 = is_staged.numbered in
        omega (arith, before, numbered)

    before_shows : (image : Image) → IsUnchangedOutside (written_by staged) s0.reads image
        → ShowsBy s0.size image c0 super entries
    before_shows image outside = shows_outside s0.size s0.reads image c0 super entries (written_by staged) ready.shows
        staged_here.written staged_here.apart outside

    after_shows : (image : Image) → HasWritten staged puts s0.reads image
        → ShowsBy s0.size image (committed puts drops root layout c0) staged.superblock staged.entries.items
    after_shows image has =
        after.shows s0.size s0.reads image (used_by super entries) (drop_each (λ e. e.id) drops entries) puts root
        (super.generation + 1) layout staged staged_here has kept.laid_out.in_range in_use
        (committed puts drops root layout c0) (generation_is puts drops root layout c0)
        (layout_is puts drops root layout c0)
        (objects_is puts drops root layout c0 ∙ ap (λ (l : List (ℕ × List ℕ)). put_all puts l) (sym left))
        (root_is puts drops root layout c0) older

    -- what a crash at any point leaves
    pub either_shows : (image : Image) → IsEither staged puts s0.reads image
        → ShowsSome (IsOneOf c0 (committed puts drops root layout c0)) s0.size image
    either_shows image either =
        ⊎_elim (λ outside. (c0, (super, entries, before_shows image outside), inl refl))
        (λ has. (
          committed puts drops root layout c0,
          (staged.superblock, staged.entries.items, after_shows image has),
          inr refl,
        )) either

    -- and what is at the end
    module _ (s1 : DeviceState) (size : s1.size ≡ s0.size) (settled : IsSettled s1)
        (has : HasWritten staged puts s0.reads s1.reads) where
      objects_after : objects_at s1.reads staged.entries.items
          ≡ put_all puts (objects_at s0.reads (drop_each (λ e. e.id) drops entries))
      objects_after =
          after.objects_are s0.size s0.reads s1.reads (used_by super entries) (drop_each (λ e. e.id) drops entries) puts
          root (super.generation + 1) layout staged staged_here has kept.laid_out.in_range in_use

      pub ready_after : IsReady s1 staged.superblock staged.entries.items staged.root.items
      ready_after = record {
        settled = settled;
        shows = subst
            (λ (n : ℕ). ShowsBy n s1.reads
            (content_from s1.reads staged.superblock staged.entries.items staged.root.items)
            staged.superblock staged.entries.items) (sym size)
            (after.shows s0.size s0.reads s1.reads (used_by super entries) (drop_each (λ e. e.id) drops entries) puts
            root (super.generation + 1) layout staged staged_here has kept.laid_out.in_range in_use
            (content_from s1.reads staged.superblock staged.entries.items staged.root.items) staged_here.numbered
            staged_here.of_layout objects_after staged_here.same_root older);
      }

      pub content_after : content_from s1.reads staged.superblock staged.entries.items staged.root.items
          ≡ committed puts drops root layout c0
      content_after =
          content_is (content_from s1.reads staged.superblock staged.entries.items staged.root.items)
          (committed puts drops root layout c0)
          (staged_here.numbered ∙ sym (generation_is puts drops root layout c0))
          (staged_here.of_layout ∙ sym (layout_is puts drops root layout c0))
          (objects_after ∙ ap (λ (l : List (ℕ × List ℕ)). put_all puts l) left
          ∙ sym (objects_is puts drops root layout c0))
          (staged_here.same_root ∙ sym (root_is puts drops root layout c0))

-- as many objects as sizes
pub few_commit : (image : Image) (super : Super) (entries : List Entry) (root0 : List ℕ) (puts : List (ℕ × List ℕ))
    (drops root : List ℕ) (layout : ℕ)
    → IsFew (committed puts drops root layout (content_from image super entries root0))
    → length (put_each (λ o. o.0) (map put_size puts) (sizes_at (drop_each (λ e. e.id) drops entries))) ≤ most_objects
few_commit image super entries root0 puts drops root layout few =
    let parts : length (committed puts drops root layout (content_from image super entries root0)).objects
    ≡ length (put_all puts (drop_all drops (objects_at image entries))) =
    ap (λ (l : List (ℕ × List ℕ)). length l)
    (objects_is puts drops root layout (content_from image super entries root0)) in
    let same = few_same image entries puts drops in
    omega (arith, few, parts, same)

-- the calls of a commit, as moments
pub commit_leaves : (d0 d1 : Disk) (super : Super) (entries : List Entry) (root0 : List ℕ)
    → KeepsLayout d0.state.size super entries root0
    → (puts : List (ℕ × List ℕ)) (drops root : List ℕ) (layout : ℕ) (staged : Staged)
    → IsStagedForPuts super.sectors (used_by super entries) (drop_each (λ e. e.id) drops entries) puts root
    (super.generation + 1) layout staged → (d1.keeps_word → d0.keeps_word) → d1.state.size ≡ d0.state.size
    → (d0.keeps_word → IsReady d0.state super entries root0)
    → (d1.keeps_word → LeavesOnly d0.state d1.state (IsEither staged puts d0.state.reads))
    → Leaves d0 d1
    (IsOneOf (content_from d0.state.reads super entries root0)
    (committed puts drops root layout (content_from d0.state.reads super entries root0)))
commit_leaves d0 d1 super entries root0 kept puts drops root layout staged is_staged word size ready moments = record {
  word = word;
  size = λ w. size;
  moments = λ w. leaves_also d0.state d1.state _ _
      (either_shows d0.state super entries root0 kept puts drops root layout staged is_staged (ready (word w)))
      (moments w);
}

-- the first fits fail
pub lacks_room : (sectors : ℕ) (used : List Extent) (entries : List Entry) (puts : List (ℕ × List ℕ))
    (drops root : List ℕ)
    → LacksPlaces sectors used (sectors_asked_for (sizes_at (drop_each (λ e. e.id) drops entries)) puts root)
    → LacksRoom (record { sectors = sectors; used = used; sizes = sizes_at entries }) puts drops root
unfolding LacksRoom
lacks_room sectors used entries puts drops root lacks =
    subst (λ (l : List (ℕ × ℕ)). LacksPlaces sectors used (sectors_asked_for l puts root))
    (map-drop_each size_at (λ (e : Entry). e.id) (λ (o : ℕ × ℕ). o.0) (λ e. refl) drops entries) lacks

pub lacks_first : (sectors : ℕ) (puts : List (ℕ × List ℕ)) (root : List ℕ)
    → LacksPlaces sectors [] (sectors_asked_for [] puts root) → LacksRoom (empty_room sectors) puts [] root
unfolding LacksRoom
lacks_first sectors puts root lacks = lacks
