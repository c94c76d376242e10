-- What the layers above the store need of contents and of what images show.
use Rattle.std.proofs.Common.{◌≡◌, ◌≢◌, ℕ, ◌+◌, ◌%◌, ◌<◌, ◌≤◌, ◌==◌, if◌then◌else◌, cond, ltb, eqb, length, Some, None}
use Rattle.std.proofs.Common.{List, [], ◌∷◌, refl, sym, ◌∙◌, ap, subst, arith, false}
use Rattle.std.proofs.lemmas.Bool.Decides.{nat_tests}
use Rattle.std.proofs.lemmas.Bool.{cond_both}
use Rattle.std.proofs.lemmas.List.Elements.{All-nil, All-cons}
use Rattle.std.proofs.lemmas.List.Kept.{AllPairs-cons}
use Rattle.wire.specs.Limits.{most_object_bytes}
use Rattle.sector_device.specs.declared.device.Sectors.{Ghosts}
use Rattle.sector_device.specs.Device.{Image, IsImage}
use Rattle.sector_device.proofs.Moments.{leaves_also}
use Rattle.superblock.specs.declared.superblock.Super.{Super}
use Rattle.superblock.specs.Superblock.{IsSuperblock}
use Rattle.object_store.specs.declared.catalogue.entry.Entry.{Entry}
use Rattle.object_store.specs.Catalogue.{IsCatalogue}
use Rattle.object_store.proofs.Catalogues.{IsCatalogue-one}
use Rattle.object_store.specs.Content.{Content, look_up, bytes_of}
use Rattle.object_store.specs.Commit.{put_by, drop_by, put_all, drop_all, committed, created, among, without, IsObject}
use Rattle.object_store.specs.Commit.{ArePuts}
use Rattle.object_store.specs.Places.{bytes_at, objects_at}
use Rattle.object_store.specs.Shows.{Shows}
use Rattle.object_store.specs.Disk.{Disk, Each, AllShow, IsShown, Leaves, OnlyImagesOf, Passes}
use Rattle.object_store.specs.declared.store.Store.{Store}
use Rattle.object_store.proofs.SourceLemmas.{none_read}
use Rattle.object_store.specs.Store.{content_of, disk_of, has_failed}
use Rattle.object_store.specs.Reading.{IsNewest}
use Rattle.std.specs.List.{AllPairs}
use Rattle.object_store.proofs.Lists.{AllPairs-drop_each, AllPairs-nil, ascending-put_each}
use Rattle.object_store.proofs.Looking.{newest_shows}
use Rattle.object_store.proofs.Committing.{content_is, generation_is, layout_is, objects_is, root_is}

look_put : (put : ℕ × List ℕ) (objects : List (ℕ × List ℕ)) (id : ℕ)
    → look_up id (put_by (λ o. o.0) put objects) ≡ (if put.0 == id then Some put.1 else look_up id objects)
look_put put [] id = refl
look_put put (first ∷ rest) id = grind (arith, nat_tests, look_put put rest id)

look_drop : (drop : ℕ) (objects : List (ℕ × List ℕ)) (id : ℕ)
    → look_up id (drop_by (λ o. o.0) drop objects) ≡ (if drop == id then None else look_up id objects)
look_drop drop [] id = grind (arith, nat_tests)
look_drop drop (first ∷ rest) id = grind (arith, nat_tests, look_drop drop rest id)

look_puts : (puts : List (ℕ × List ℕ)) (objects : List (ℕ × List ℕ)) (id : ℕ)
    → look_up id (put_all puts objects) ≡ among puts id (look_up id objects)
look_puts [] objects id = refl
look_puts (put ∷ puts) objects id = look_puts puts (put_by (λ o. o.0) put objects) id
    ∙ ap (among puts id) (look_put put objects id)

look_drops : (drops : List ℕ) (objects : List (ℕ × List ℕ)) (id : ℕ)
    → look_up id (drop_all drops objects) ≡ without drops id (look_up id objects)
look_drops [] objects id = refl
look_drops (drop ∷ drops) objects id = look_drops drops (drop_by (λ o. o.0) drop objects) id
    ∙ ap (without drops id) (look_drop drop objects id)

-- of the puts the last one of an id counts, and no dropped object is left
pub bytes_after : (puts : List (ℕ × List ℕ)) (drops root : List ℕ) (layout : ℕ) (c : Content) (id : ℕ)
    → bytes_of (committed puts drops root layout c) id ≡ among puts id (without drops id (bytes_of c id))
bytes_after puts drops root layout c id =
    ap (λ (l : List (ℕ × List ℕ)). look_up id l) (objects_is puts drops root layout c)
    ∙ look_puts puts (drop_all drops c.objects) id ∙ ap (among puts id) (look_drops drops c.objects id)

pub root_after : (puts : List (ℕ × List ℕ)) (drops root : List ℕ) (layout : ℕ) (c : Content)
    → (committed puts drops root layout c).root ≡ root
root_after puts drops root layout c = root_is puts drops root layout c

pub generation_after : (puts : List (ℕ × List ℕ)) (drops root : List ℕ) (layout : ℕ) (c : Content)
    → (committed puts drops root layout c).generation ≡ c.generation + 1
generation_after puts drops root layout c = generation_is puts drops root layout c

pub layout_after : (puts : List (ℕ × List ℕ)) (drops root : List ℕ) (layout : ℕ) (c : Content)
    → (committed puts drops root layout c).layout ≡ layout
layout_after puts drops root layout c = layout_is puts drops root layout c

-- the content that is made on a device without one
pub bytes_created : (puts : List (ℕ × List ℕ)) (root : List ℕ) (layout : ℕ) (id : ℕ)
    → bytes_of (created puts root layout) id ≡ among puts id None
unfolding created
bytes_created puts root layout id = look_puts puts [] id

pub root_created : (puts : List (ℕ × List ℕ)) (root : List ℕ) (layout : ℕ) → (created puts root layout).root ≡ root
unfolding created
root_created puts root layout = refl

pub layout_created : (puts : List (ℕ × List ℕ)) (root : List ℕ) (layout : ℕ)
    → (created puts root layout).layout ≡ layout
unfolding created
layout_created puts root layout = refl

-- an image shows at most one content
pub shows_one : (size : ℕ) (image : Image) (c d : Content) → Shows size image c → Shows size image d → c ≡ d
shows_one size image c d first second =
    let numbered : (first.0).generation ≡ c.generation = (first.2).spells.numbered in
    let newest : IsNewest image first.0 = record {
      in_slot = subst (λ (n : ℕ). IsSuperblock (n % 2) (image (n % 2)) first.0) (sym numbered) (first.2).in_slot;
      newest = λ slot lt other is. omega (arith, (first.2).newest slot lt other is, numbered);
    } in
    let super : first.0 ≡ second.0 = newest_shows size image first.0 newest d second.0 second.1 second.2 in
    let one = IsCatalogue-one (bytes_at image (first.0).catalogue (first.0).bytes) first.1 second.1 c.root d.root
    (first.2).spells.spelled
    (subst (λ (s : Super). IsCatalogue (bytes_at image s.catalogue s.bytes) second.1 d.root) (sym super)
    (second.2).spells.spelled) in
    content_is c d
    (sym numbered ∙ ap (λ (s : Super). s.generation) super ∙ (second.2).spells.numbered)
    (sym (first.2).spells.of_layout ∙ ap (λ (s : Super). s.layout) super ∙ (second.2).spells.of_layout)
    ((first.2).spells.objects ∙ ap (λ (l : List Entry). objects_at image l) one.0 ∙ sym (second.2).spells.objects)
    one.1

-- what all show, a content that is shown has
pub shown_has : (P : Content → Type 0) (now : Disk) (c : Content) → now.keeps_word → AllShow now P → IsShown now c → P c
shown_has P now c w all shown =
    let one = all w shown.image shown.is in
    subst P (shows_one now.state.size shown.image one.0 c one.1 shown.shows) one.2

length-put_by : (put : ℕ × List ℕ) (l : List (ℕ × List ℕ)) → length (put_by (λ o. o.0) put l) ≤ 1 + length l
length-put_by put [] = omega arith
length-put_by put (first ∷ rest) =
    cond_both (ltb put.0 first.0) (put ∷ first ∷ rest)
    (cond (eqb put.0 first.0) (put ∷ rest) (first ∷ put_by (λ o. o.0) put rest))
    (λ (m : List (ℕ × List ℕ)). length m ≤ 1 + length (first ∷ rest))
    (λ _. omega arith)
    (λ _. cond_both (eqb put.0 first.0) (put ∷ rest) (first ∷ put_by (λ o. o.0) put rest)
    (λ (m : List (ℕ × List ℕ)). length m ≤ 1 + length (first ∷ rest))
    (λ _. omega arith)
    (λ _. let more : length (put_by (λ o. o.0) put rest) ≤ 1 + length rest = length-put_by put rest in
    omega (arith, more)))

length-drop_by : (id : ℕ) (l : List (ℕ × List ℕ)) → length (drop_by (λ o. o.0) id l) ≤ length l
length-drop_by id [] = omega arith
length-drop_by id (first ∷ rest) =
    cond_both (eqb first.0 id) (drop_by (λ o. o.0) id rest) (first ∷ drop_by (λ o. o.0) id rest)
    (λ (m : List (ℕ × List ℕ)). length m ≤ length (first ∷ rest))
    (λ _. let fewer : length (drop_by (λ o. o.0) id rest) ≤ length rest = length-drop_by id rest in
    omega (arith, fewer))
    (λ _. let fewer : length (drop_by (λ o. o.0) id rest) ≤ length rest = length-drop_by id rest in
    omega (arith, fewer))

length-put_all : (puts l : List (ℕ × List ℕ)) → length (put_all puts l) ≤ length puts + length l
length-put_all [] l = omega arith
length-put_all (put ∷ puts) l =
    let rest : length (put_all puts (put_by (λ o. o.0) put l)) ≤ length puts + length (put_by (λ o. o.0) put l) =
    length-put_all puts (put_by (λ o. o.0) put l) in
    let one : length (put_by (λ o. o.0) put l) ≤ 1 + length l = length-put_by put l in
    omega (arith, rest, one)

length-drop_all : (drops : List ℕ) (l : List (ℕ × List ℕ)) → length (drop_all drops l) ≤ length l
length-drop_all [] l = omega arith
length-drop_all (id ∷ drops) l =
    let rest : length (drop_all drops (drop_by (λ o. o.0) id l)) ≤ length (drop_by (λ o. o.0) id l) =
    length-drop_all drops (drop_by (λ o. o.0) id l) in
    let one : length (drop_by (λ o. o.0) id l) ≤ length l = length-drop_by id l in
    omega (arith, rest, one)

-- a commit leaves no more objects than there were and are put
pub few_after : (puts : List (ℕ × List ℕ)) (drops root : List ℕ) (layout : ℕ) (c : Content)
    → length (committed puts drops root layout c).objects ≤ length puts + length c.objects
few_after puts drops root layout c =
    let parts : length (committed puts drops root layout c).objects ≡ length (put_all puts (drop_all drops c.objects)) =
    ap (λ (l : List (ℕ × List ℕ)). length l) (objects_is puts drops root layout c) in
    let most : length (put_all puts (drop_all drops c.objects)) ≤ length puts + length (drop_all drops c.objects) =
    length-put_all puts (drop_all drops c.objects) in
    let fewer : length (drop_all drops c.objects) ≤ length c.objects = length-drop_all drops c.objects in
    omega (arith, parts, most, fewer)

pub few_created : (puts : List (ℕ × List ℕ)) (root : List ℕ) (layout : ℕ)
    → length (created puts root layout).objects ≤ length puts
unfolding created
few_created puts root layout = let most : length (put_all puts []) ≤ length puts + length {A = ℕ × List ℕ} [] =
    length-put_all puts [] in omega (arith, most)

-- one object may be put
pub one_put : (id : ℕ) (bytes : List ℕ) → 1 ≤ length bytes → length bytes ≤ most_object_bytes
    → ArePuts ((id, bytes) ∷ [])
one_put id bytes least most = record {
  each = All-cons IsObject (id, bytes) [] (record { least = least; most = most }) (All-nil IsObject);
  distinct = AllPairs-cons (λ (a : ℕ × List ℕ) (b : ℕ × List ℕ). a.0 ≢ b.0) (id, bytes) []
      (All-nil (λ (b : ℕ × List ℕ). id ≢ b.0)) (AllPairs-nil (λ (a : ℕ × List ℕ) (b : ℕ × List ℕ). a.0 ≢ b.0));
}

-- no id is there twice, also after a commit
pub once_after : (puts : List (ℕ × List ℕ)) (drops root : List ℕ) (layout : ℕ) (c : Content)
    → AllPairs (λ (a : ℕ × List ℕ) (b : ℕ × List ℕ). a.0 < b.0) c.objects
    → AllPairs (λ (a : ℕ × List ℕ) (b : ℕ × List ℕ). a.0 < b.0) (committed puts drops root layout c).objects
once_after puts drops root layout c up =
    subst (λ (l : List (ℕ × List ℕ)). AllPairs (λ (a : ℕ × List ℕ) (b : ℕ × List ℕ). a.0 < b.0) l)
    (sym (objects_is puts drops root layout c))
    (ascending-put_each (λ o. o.0) puts (drop_all drops c.objects)
    (AllPairs-drop_each (λ (a : ℕ × List ℕ) (b : ℕ × List ℕ). a.0 < b.0) (λ o. o.0) drops c.objects up))

pub once_created : (puts : List (ℕ × List ℕ)) (root : List ℕ) (layout : ℕ)
    → AllPairs (λ (a : ℕ × List ℕ) (b : ℕ × List ℕ). a.0 < b.0) (created puts root layout).objects
unfolding created
once_created puts root layout =
    ascending-put_each (λ o. o.0) puts [] (AllPairs-nil (λ (a : ℕ × List ℕ) (b : ℕ × List ℕ). a.0 < b.0))

-- where each image is one of those at the start, each has what all had then
pub only_images : (P : ℕ → Image → Type 0) (old new : Disk) → OnlyImagesOf old new → Each old P → Passes old new P
only_images P old new only each = record {
  word = only.word;
  size = only.size;
  moments = λ w. leaves_also old.state new.state (IsImage old.state) (P old.state.size) (each (only.word w))
      (only.moments w);
}

-- before its first call, a store that has not failed leaves what it holds
pub leaves_now : {D : Type 0} (g : Ghosts D)
    → ((d : D) (image : Image) → g.keeps_word d → (g.state d).left_since (g.state d).moment image
    → IsImage (g.state d) image) → (store : Store D g) → has_failed store ≡ false
    → Leaves (disk_of g store) (disk_of g store) (λ c. c ≡ content_of g store)
leaves_now g only store = (none_read g only store).leaves

-- what all images show may be said more weakly
pub all_weaker : (P Q : Content → Type 0) (now : Disk) → (now.keeps_word → (c : Content) → P c → Q c) → AllShow now P
    → AllShow now Q
all_weaker P Q now so all w image is = let shown = all w image is in (shown.0, shown.1, so w shown.0 shown.2)
