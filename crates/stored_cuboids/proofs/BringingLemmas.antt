-- Lemmas of `bringing`, by subject.
use Rattle.std.proofs.Common.{◌≡◌, ◌≤◌, ◌==◌, if◌then◌else◌, ℕ, Bool, true, Some, List, slice_get, sym, ◌∙◌, ap, arith}
use Rattle.std.proofs.Common.{◌≢◌, ◌⊎◌, ⊎_elim, inl, inr, ◌<◌, Err, IsErrOf, [], ◌∷◌, refl, subst}
use Rattle.std.specs.Option.{option_map}
use Rattle.std.proofs.lemmas.Bool.Decides.{nat_tests}
use Rattle.std.proofs.lemmas.Option.{slice_get-map}
use Rattle.lattice.specs.declared.view.View.{View}
use Rattle.lattice.specs.Views.{index_of}
use Rattle.lattice.proofs.Places.{one_view}
use Rattle.object_store.specs.Content.{Content}
use Rattle.warehouse_root.specs.declared.cuboid.StoredCuboid.{StoredCuboid}
use Rattle.warehouse_root.specs.Root.{PlainRoot, with_cuboid}
use Rattle.stored_cuboids.specs.Grouped.{EndsGrouping}
use Rattle.warehouse_objects.specs.Warehouse.{Cuboid, Warehouse}
use Rattle.warehouse_objects.specs.Represents.{Represents, root_of, said_of, AreItsMembers}
use Rattle.stored_cuboids.specs.Nexts.{HasStored, IsBroughtBy, IsNextStep, EndsBringing, RefusesToBringOn}
use Rattle.stored_cuboids.specs.declared.keeping.Next.{Next}
use Rattle.stored_cuboids.proofs.Places.{changed, changed_is, changed_caught, stored_there}
use Rattle.sector_device.specs.declared.device.Sectors.{Ghosts}
use Rattle.cube_model.specs.declared.fault.Fault.{Fault}
use Rattle.cube_model.specs.declared.fault.Fault.TheVariants.{BadLayout, Device, Failed, Memory, TooManyCells}
use Rattle.cube_model.specs.FaultNumbers.{number_of}
use Rattle.cube_model.specs.declared.rows.DimRows.{DimRows}
use Rattle.object_store.specs.Disk.{Leaves}
use Rattle.object_store.proofs.Moments.{leaves_then, leaves_weaker}
use Rattle.object_store.specs.Room.{Room}
use Rattle.object_store.specs.Store.{IsAsBefore, IsStill, Refuses, content_of, device_of, disk_of, room_of}
use Rattle.object_store.specs.declared.store.Store.{Store}
use Rattle.warehouse_objects.proofs.Folded.{err_fault}
use Rattle.stored_cuboids.specs.Keeping.{IsCaughtUp, IsReached, IsTooLarge, StoreAt}
use Rattle.stored_cuboids.proofs.LaterReads.{at_still}
use Rattle.stored_cuboids.proofs.Turns.{same}

-- ==== A warehouse with a cuboid that was brought on.

pub brought_by : (Holds : Warehouse → Type 0) (root : PlainRoot) (said : StoredCuboid) (mark : ℕ) (next : Next)
    (is : IsNextStep Holds root said mark next) (c : Content) (w : Warehouse) (old : Cuboid)
    → Represents c w → HasStored root said w old → Holds w → IsBroughtBy w next (changed is.change said.view w)
brought_by Holds root said mark next is c w old represents has holds =
    let by = is.brings w old has holds in record {
      old = old;
      new = is.change old;
      run = by.0;
      brings = by.1;
      is = ap (λ (l : List Cuboid). record w { cuboids = l })
          (changed_is is.change said.view old w.cuboids is.goes_on represents.root.proper.ascending
          (ap (λ (s : StoredCuboid). s.view) has.said_is) has.found);
    }

same_Some : {A : Type 0} (a b : A) → Some a ≡ Some b → a ≡ b
same_Some a b same = cc

-- what a root says of the cuboid at a place
pub said_there : (v : Warehouse) (root : PlainRoot) (said : StoredCuboid) (place : ℕ) (cuboid : Cuboid)
    → root_of v ≡ root → slice_get root.cuboids place ≡ Some said → slice_get v.cuboids place ≡ Some cuboid
    → said_of cuboid ≡ said
said_there v root said place cuboid root_is at is =
    same_Some (said_of cuboid) said (sym (slice_get-map said_of v.cuboids place ∙ ap (option_map said_of) is)
    ∙ ap (λ (r : PlainRoot). slice_get r.cuboids place) root_is ∙ at)

pub put_there : (root : PlainRoot) (said after : StoredCuboid) (place : ℕ) → slice_get root.cuboids place ≡ Some said
    → after.view ≡ said.view → slice_get (with_cuboid after root).cuboids place ≡ Some after
put_there root said after place at view =
    let own : (said.view == after.view) ≡ true = grind (arith, nat_tests, view) in
    slice_get-map (λ (other : StoredCuboid). if other.view == after.view then after else other) root.cuboids place
    ∙ ap (option_map (λ (other : StoredCuboid). if other.view == after.view then after else other)) at
    ∙ ap (λ (b : Bool). Some (if b then after else said)) own

-- a cuboid with at least that mark has reached the target
pub far_enough : (v : Warehouse) (root : PlainRoot) (said : StoredCuboid) (place : ℕ) (cuboid : Cuboid)
    → root_of v ≡ root → slice_get root.cuboids place ≡ Some said → slice_get v.cuboids place ≡ Some cuboid
    → root.target ≤ said.mark → v.target ≤ cuboid.mark
far_enough v root said place cuboid root_is at is far =
    let mark = ap (λ (s : StoredCuboid). s.mark) (said_there v root said place cuboid root_is at is) in
    let target = ap (λ (r : PlainRoot). r.target) root_is in
    omega (arith, far, mark, target)

-- the view of a cuboid is the one of its number
pub view_there : (said : StoredCuboid) (cuboid : Cuboid) (view : View) → said_of cuboid ≡ said
    → index_of view ≡ said.view → cuboid.view ≡ view
view_there said cuboid view said_is number =
    one_view cuboid.view view (ap (λ (s : StoredCuboid). s.view) said_is ∙ sym number)

-- ==== A cuboid is brought on: what was read, and the commit after it.

-- what a read leaves
pub read_leaves : {D : Type 0} (g : Ghosts D) (a b : Store D g) (root : PlainRoot) (w : Warehouse) → StoreAt g a root w
    → Leaves (disk_of g a) (disk_of g b) (λ c. c ≡ content_of g a)
    → Leaves (disk_of g a) (disk_of g b) (λ c. (v : Warehouse) × IsCaughtUp w v × Represents c v)
read_leaves g a b root w is =
    leaves_weaker (λ (c : Content). c ≡ content_of g a) (λ (c : Content). (v : Warehouse) × IsCaughtUp w v
    × Represents c v) (disk_of g a) (disk_of g b)
    (λ k c e. (w, same w, subst (λ (x : Content). Represents x w) (sym e) (is.represents k)))

-- ---- refusals

pub not_device : {X : Type 0} (fault : Fault) (number : ℕ) → fault ≡ TooManyCells number
    → IsErrOf {T = X} (Err fault) Device → ⊥
not_device fault number many is = let none : TooManyCells number ≡ Device = sym many ∙ err_fault fault Device is in cc

pub bad_not_device : {X : Type 0} (fault : Fault) → fault ≡ BadLayout → IsErrOf {T = X} (Err fault) Device → ⊥
bad_not_device fault bad is = let none : BadLayout ≡ Device = sym bad ∙ err_fault fault Device is in cc

pub none_left : (fault : Fault) (number : ℕ) → (fault ≡ Memory → ⊥) → (fault ≡ Device → ⊥) → (fault ≡ BadLayout → ⊥)
    → (fault ≡ TooManyCells number → ⊥)
    → EndsGrouping number fault → ⊥
none_left fault number memory device bad many cause =
    ⊎_elim {C = ⊥} memory (⊎_elim {C = ⊥} device (⊎_elim {C = ⊥} bad many)) cause

pub many_by_number : (fault : Fault) (number : ℕ) → number_of fault ≡ 26 → EndsGrouping number fault
    → fault ≡ TooManyCells number
many_by_number fault number is cause =
    ⊎_elim {C = fault ≡ TooManyCells number}
    (λ (memory : fault ≡ Memory). absurd (omega (arith, is, ap number_of memory)))
    (⊎_elim {C = fault ≡ TooManyCells number}
    (λ (device : fault ≡ Device). absurd (omega (arith, is, ap number_of device)))
    (⊎_elim {C = fault ≡ TooManyCells number}
    (λ (bad : fault ≡ BadLayout). absurd (omega (arith, is, ap number_of bad)))
    (λ many. many))) cause

pub never_failed : {X : Type 0} (fault : Fault) (number : ℕ) → EndsGrouping number fault
    → IsErrOf {T = X} (Err fault) Failed → ⊥
never_failed fault number cause is =
    let failed = ap number_of (err_fault fault Failed is) in
    ⊎_elim {C = ⊥}
    (λ (memory : fault ≡ Memory). absurd (omega (arith, failed, ap number_of memory)))
    (⊎_elim {C = ⊥}
    (λ (device : fault ≡ Device). absurd (omega (arith, failed, ap number_of device)))
    (⊎_elim {C = ⊥}
    (λ (bad : fault ≡ BadLayout). absurd (omega (arith, failed, ap number_of bad)))
    (λ (many : fault ≡ TooManyCells number). absurd (omega (arith, failed, ap number_of many))))) cause

device_or : (fault : Fault) → (fault ≡ Device) ⊎ (fault ≡ Device → ⊥)
device_or Device = inl refl
device_or fault = inr (λ e. cc)

-- a commit that was refused ends it
pub ends_refused : (c : Content) (room : Room) (puts : List (ℕ × List ℕ)) (drops root : List ℕ) (fault : Fault)
    → (fault ≢ Device → (fault ≡ BadLayout) ⊎ Refuses c room puts drops root fault) → EndsBringing fault
ends_refused c room puts drops root fault causes =
    ⊎_elim {C = EndsBringing fault}
    (λ device. inr (inl device))
    (λ other. ⊎_elim {C = EndsBringing fault}
    (λ bad. inr (inr (inl bad)))
    (⊎_elim {C = EndsBringing fault} (λ memory. inl memory)
    (⊎_elim {C = EndsBringing fault} (λ worn. inr (inr (inr (inr worn.0)))) (λ full. inr (inr (inr (inl full.0))))))
    (causes other))
    (device_or fault)

-- so does what was not read
pub ends_unread : (fault : Fault) (number : ℕ) → (fault ≡ TooManyCells number → ⊥) → EndsGrouping number fault
    → EndsBringing fault
ends_unread fault number many =
    ⊎_elim {C = EndsBringing fault} (λ memory. inl memory)
    (⊎_elim {C = EndsBringing fault} (λ device. inr (inl device))
    (⊎_elim {C = EndsBringing fault} (λ bad. inr (inr (inl bad))) (λ is. absurd (many is))))

module _ {D : Type 0} (g : Ghosts D) (a b : Store D g) (still : IsStill g a b) (dims : DimRows)
    (modes : List (List ℕ)) (root : PlainRoot) (said : StoredCuboid) (place : ℕ)
    (there : slice_get root.cuboids place ≡ Some said) where
  -- the cuboid in the warehouse
  pub stored_at : (w : Warehouse) → StoreAt g a root w → g.keeps_word (device_of b)
      → (old : Cuboid) × (slice_get w.cuboids place ≡ Some old) × HasStored root said w old
  stored_at w is k =
      stored_there (content_of g a) w root said place (is.represents (still.word k)) (is.root_is (still.word k)) there

  -- the view was found too large
  pub passed_over : (view : View) → index_of view ≡ said.view
      → ((w : Warehouse) (stored : Cuboid) → Represents (content_of g a) w → HasStored root said w stored
      → AreItsMembers w dims modes → IsTooLarge w view)
      → (v : Warehouse) → StoreAt g b root v → g.keeps_word (device_of b) → AreItsMembers v dims modes
      → (cuboid : Cuboid) → slice_get v.cuboids place ≡ Some cuboid → IsReached (Some view) v cuboid
  passed_over view number large v is k rows cuboid at_place =
      let represents = subst (λ (x : Content). Represents x v) (still.content k) (is.represents k) in
      let found = stored_there (content_of g a) v root said place represents (is.root_is k) there in (
        view_there said cuboid view (said_there v root said place cuboid (is.root_is k) there at_place) number,
        large v found.0 represents found.2 rows,
      )

  module _ (next : Next)
      (is : IsNextStep (λ w. g.keeps_word (device_of b) × Represents (content_of g a) w × AreItsMembers w dims modes)
      root
      said root.target next) where
    abbrev pub brought : Warehouse → Warehouse
    brought w = changed is.change said.view w

    pub by_next : (w : Warehouse) → StoreAt g a root w → (g.keeps_word (device_of a) → AreItsMembers w dims modes)
        → g.keeps_word (device_of b) → IsBroughtBy w next (brought w)
    by_next w at_a rows k =
        let represents = at_a.represents (still.word k) in
        let found = stored_at w at_a k in
        brought_by (λ x. g.keeps_word (device_of b) × Represents (content_of g a) x × AreItsMembers x dims modes) root
        said root.target next is (content_of g a) w found.0 represents found.2 (k, represents, rows (still.word k))

    pub caught : (w : Warehouse) → IsCaughtUp w (brought w)
    caught w = changed_caught is.change said.view w is.goes_on

    -- the store refused it
    pub refused_next : (c : Store D g) (w : Warehouse) (fault : Fault) → StoreAt g a root w
        → (g.keeps_word (device_of a) → AreItsMembers w dims modes) → g.keeps_word (device_of b)
        → said.mark < root.target → IsAsBefore g b c
        → Refuses (content_of g b) (room_of b) ((next.id, next.bytes.items) ∷ []) next.drops.items next.root_bytes.items
        fault
        → (refused : RefusesToBringOn g c w fault) × (slice_get w.cuboids place ≡ Some refused.old)
    refused_next c w fault at_a rows k less as_before refuses =
        let found = stored_at w at_a k in
        let by = is.brings w found.0 found.2 (k, at_a.represents (still.word k), rows (still.word k)) in
        let mark : found.0.mark ≡ said.mark = ap (λ (s : StoredCuboid). s.mark) found.2.said_is in
        let target : w.target ≡ root.target = ap (λ (r : PlainRoot). r.target) (at_a.root_is (still.word k)) in (
          record {
            old = found.0;
            new = is.change found.0;
            run = by.0;
            next = next;
            less = omega (arith, mark, target, less);
            target = is.reaches found.0 (omega (arith, mark, less)) ∙ sym target;
            brings = by.1;
            refuses =
                subst (λ (x : Content). Refuses x (room_of c) ((next.id, next.bytes.items) ∷ []) next.drops.items
                next.root_bytes.items fault) (sym as_before.content)
                (subst (λ (r : Room). Refuses (content_of g b) r ((next.id, next.bytes.items) ∷ []) next.drops.items
                next.root_bytes.items fault) (sym as_before.room) refuses);
          },
          found.1,
        )

    module _ (c : Store D g) where
      pub bring_leaves : (w : Warehouse) → StoreAt g a root w
          → (g.keeps_word (device_of a) → AreItsMembers w dims modes)
          → Leaves (disk_of g a) (disk_of g b) (λ x. x ≡ content_of g a)
          → ((w v : Warehouse) → StoreAt g b root w → (g.keeps_word (device_of b) → IsBroughtBy w next v)
          → Leaves (disk_of g b) (disk_of g c) (λ x. Represents x w ⊎ Represents x v))
          → Leaves (disk_of g a) (disk_of g c) (λ x. (v : Warehouse) × IsCaughtUp w v × Represents x v)
      bring_leaves w at_a rows read put =
          leaves_then (λ (x : Content). (v : Warehouse) × IsCaughtUp w v × Represents x v) (disk_of g a) (disk_of g b)
          (disk_of g c) (read_leaves g a b root w at_a read)
          (leaves_weaker (λ (x : Content). Represents x w ⊎ Represents x (brought w))
          (λ (x : Content). (v : Warehouse) × IsCaughtUp w v × Represents x v) (disk_of g b) (disk_of g c)
          (λ k x. ⊎_elim (λ before. (w, same w, before)) (λ after. (brought w, caught w, after)))
          (put w (brought w) (at_still g a b still root w at_a) (by_next w at_a rows)))

      pub bring_stays : (after : PlainRoot) (w : Warehouse) → StoreAt g a root w
          → (g.keeps_word (device_of a) → AreItsMembers w dims modes)
          → ((w v : Warehouse) → StoreAt g b root w → (g.keeps_word (device_of b) → IsBroughtBy w next v)
          → StoreAt g c after v)
          → (v : Warehouse) × IsCaughtUp w v × StoreAt g c after v
      bring_stays after w at_a rows put =
          (brought w, caught w, put w (brought w) (at_still g a b still root w at_a) (by_next w at_a rows))

      pub bring_reached : (after : PlainRoot) → after ≡ next.root → (v : Warehouse) → StoreAt g c after v
          → g.keeps_word (device_of c) → (cuboid : Cuboid) → slice_get v.cuboids place ≡ Some cuboid
          → v.target ≤ cuboid.mark
      bring_reached after after_is v at_c k cuboid at_place =
          let root_is = at_c.root_is k ∙ after_is ∙ is.root_is in
          far_enough v (with_cuboid is.after root) is.after place cuboid root_is
          (put_there root said is.after place there is.view) at_place (omega (arith, is.mark_is))
