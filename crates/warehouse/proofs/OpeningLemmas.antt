-- An opening: the store's, and the reading of what the session keeps.
use Rattle.std.proofs.Common.{◌≡◌, false, Option, refl, sym, subst}
use Rattle.sector_device.specs.declared.device.Sectors.{Ghosts}
use Rattle.object_store.specs.Content.{Content}
use Rattle.object_store.specs.Disk.{Disk, disk, AllShow, Leaves, ShowsSome, OnlyImagesOf, IsShown, MayShowNothing}
use Rattle.object_store.proofs.Moments.{leaves_then, leaves_weaker}
use Rattle.object_store.proofs.CallerLemmas.{only_images}
use Rattle.object_store.specs.Store as stores
use Rattle.object_store.specs.declared.store.Store.{Store}
use Rattle.object_store.proofs.CallerLemmas.{shown_has}
use Rattle.warehouse_objects.specs.Facts.{Change, Facts}
use Rattle.warehouse_objects.specs.Warehouse.{Warehouse}
use Rattle.warehouse_objects.specs.Represents.{Represents}
use Rattle.warehouse.specs.declared.session.Session.{Session}
use Rattle.stored_cuboids.proofs.CallerLemmas.{kept_same}
use Rattle.warehouse.specs.Found.{IsSince, MayBeFound, MayRepresent, MayRepresentSince}
use Rattle.warehouse.specs.Session.{IsAt, disk_of, content_of, has_failed}
use Rattle.warehouse.proofs.Represented.{is_at}

-- what is shown then is since then
pub since_then : (start : Disk) (c : Content) (w : Warehouse) → IsShown start c → Represents c w → IsSince start w
since_then start c w shown represents = record {
  content = c;
  shown = shown;
  first = w;
  represents = represents;
  kept = kept_same w;
  target = refl;
}

-- each image then
pub images_since : (start : Disk) (facts : Facts) (last : Option Change) → AllShow start (MayRepresent facts last)
    → AllShow start (MayRepresentSince start facts last)
images_since start facts last all k image is =
    let shown = all k image is in
    let may = shown.2 in (
      shown.0,
      shown.1,
      (
        may.0,
        may.1,
        since_then start shown.0 may.0 (record { image = image; is = is; shows = shown.1 }) may.2,
        may.2,
      ),
    )

-- where nothing but reads was done
pub only_since : (start now : Disk) (facts : Facts) (last : Option Change) → AllShow start (MayRepresent facts last)
    → OnlyImagesOf start now → Leaves start now (MayRepresentSince start facts last)
only_since start now facts last all only =
    only_images (ShowsSome (MayRepresentSince start facts last)) start now only (images_since start facts last all)

module _ {D : Type 0} (g : Ghosts D) (device : D) (store : Store D g) (facts : Facts) (last : Option Change)
    (all : AllShow (disk g device) (MayRepresent facts last))
    (only : OnlyImagesOf (disk g device) (stores.disk_of g store)) (found : (stores.disk_of g store).keeps_word
    → IsShown (disk g device) (stores.content_of g store)) where
  abbrev Since : Content → Type 0
  Since = MayRepresentSince (disk g device) facts last

  all_since : AllShow (disk g device) Since
  all_since = images_since (disk g device) facts last all

  content_may : (stores.disk_of g store).keeps_word → Since (stores.content_of g store)
  content_may k = shown_has Since (disk g device) (stores.content_of g store) (only.word k) all_since (found k)

  -- the store was opened, and then read
  pub read_leaves : (now : Disk) → Leaves (stores.disk_of g store) now (λ c. c ≡ stores.content_of g store)
      → Leaves (disk g device) now Since
  read_leaves now reads =
      leaves_then Since (disk g device) (stores.disk_of g store) now
      (only_images (ShowsSome Since) (disk g device) (stores.disk_of g store) only all_since)
      (leaves_weaker (λ (c : Content). c ≡ stores.content_of g store) Since (stores.disk_of g store) now
      (λ k c e. subst Since (sym e) (content_may k)) reads)

  -- the session is at what was found
  pub session_may : (session : Session D g) → has_failed session ≡ false
      → ((disk_of g session).keeps_word → content_of g session ≡ stores.content_of g store)
      → Leaves (stores.disk_of g store) (disk_of g session) (λ c. c ≡ stores.content_of g store)
      → (disk_of g session).keeps_word → (w : Warehouse) × MayBeFound facts last w × IsSince (disk g device) w
      × IsAt g session w
  session_may session fine same reads k =
      let may = content_may (reads.word k) in (
        may.0,
        may.1,
        may.2,
        is_at g session may.0 fine (λ j. subst (λ (c : Content). Represents c may.0) (sym (same j)) may.3),
      )

  -- what was found represents something
  pub never_loaded : (now : Disk) → Leaves (stores.disk_of g store) now (λ c. c ≡ stores.content_of g store)
      → now.keeps_word → ((w : Warehouse) → Represents (stores.content_of g store) w → ⊥) → ⊥
  never_loaded now reads k none = let may = content_may (reads.word k) in none may.0 may.3

-- where all images show something, none shows nothing
pub never_none : (d : Disk) (P : Content → Type 0) → AllShow d P → d.keeps_word → MayShowNothing d → ⊥
never_none d P all k nothing = let shown = all k nothing.image nothing.is in nothing.none shown.0 shown.1
