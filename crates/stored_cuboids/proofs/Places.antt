-- The stored cuboids of a warehouse, by their views and in its root.
use Rattle.std.proofs.Common.{◌≡◌, ◌≤◌, ◌<◌, ◌==◌, if◌then◌else◌, zero, suc, ℕ, Bool, true, false, Option, Some, None}
use Rattle.std.proofs.Common.{List, [], ◌∷◌, map, length, slice_get, refl, sym, ◌∙◌, ap, subst, arith}
use Rattle.std.specs.Option.{option_map}
use Rattle.std.proofs.lemmas.Bool.Decides.{nat_tests}
use Rattle.std.proofs.lemmas.List.{length-map}
use Rattle.std.proofs.lemmas.Option.{get_or_from_slice_get, slice_get-map, slice_get_within}
use Rattle.lattice.specs.Views.{index_of}
use Rattle.warehouse_root.specs.declared.cuboid.StoredCuboid.{StoredCuboid}
use Rattle.warehouse_root.specs.Root as roots
use Rattle.warehouse_root.specs.Root.{ViewsAscend, PlainRoot, with_cuboid}
use Rattle.object_store.specs.Content.{Content}
use Rattle.warehouse_objects.specs.Warehouse.{Cuboid, Warehouse, cuboid_at, kept, put_cuboid}
use Rattle.warehouse_objects.specs.Represents.{HoldsGroupings, Represents, root_of, said_of}
use Rattle.stored_cuboids.specs.Keeping.{AreKeptOn, IsCaughtUp}
use Rattle.stored_cuboids.specs.Nexts.{RaisesMarks, HasStored}

same_Some : {A : Type 0} (a b : A) → Some a ≡ Some b → a ≡ b
same_Some a b same = cc

-- a later cuboid has a higher view
above : (c : Cuboid) (cs : List Cuboid) → ViewsAscend (map said_of (c ∷ cs)) → (k : ℕ) (x : Cuboid)
    → slice_get cs k ≡ Some x → index_of c.view < index_of x.view
above c cs up k x is =
    let within : k < length cs = slice_get_within cs k x is in
    let at_k : slice_get (map said_of cs) k ≡ Some (said_of x) = slice_get-map said_of cs k
    ∙ ap (option_map said_of) is in
    let there = get_or_from_slice_get (map said_of cs) k (said_of x) (said_of c) at_k in
    let less = up 0 (suc k) (said_of c) (omega arith) (omega (arith, within, length-map cs said_of)) in
    omega (arith, less, ap (λ (s : StoredCuboid). s.view) there)

up_tail : (c : Cuboid) (cs : List Cuboid) → ViewsAscend (map said_of (c ∷ cs)) → ViewsAscend (map said_of cs)
up_tail c cs up = λ i j d before within. up (suc i) (suc j) d (omega (arith, before)) (omega (arith, within))

-- the cuboid at a place is that of its view
pub own_view : (cuboids : List Cuboid) (k : ℕ) (x : Cuboid) → ViewsAscend (map said_of cuboids)
    → slice_get cuboids k ≡ Some x → cuboid_at (index_of x.view) cuboids ≡ Some x
own_view [] k x up is = absurd cc
own_view (c ∷ cs) zero x up is =
    let same : c ≡ x = same_Some c x is in
    let found : (index_of c.view == index_of x.view) ≡ true = let e : index_of c.view ≡ index_of x.view =
    ap (λ (y : Cuboid). index_of y.view) same in grind (arith, nat_tests, e) in
    ap (λ (b : Bool). if b then Some c else cuboid_at (index_of x.view) cs) found ∙ is
own_view (c ∷ cs) (suc k) x up is =
    let less : index_of c.view < index_of x.view = above c cs up k x is in
    let other : (index_of c.view == index_of x.view) ≡ false = grind (arith, nat_tests, less) in
    ap (λ (b : Bool). if b then Some c else cuboid_at (index_of x.view) cs) other ∙ own_view cs k x (up_tail c cs up) is

-- views ascend with places
pub not_below : (cuboids : List Cuboid) (i j : ℕ) (x y : Cuboid) → ViewsAscend (map said_of cuboids)
    → slice_get cuboids i ≡ Some x → slice_get cuboids j ≡ Some y → i ≤ j → index_of x.view ≤ index_of y.view
not_below [] i j x y up at_i at_j order = absurd cc
not_below (c ∷ cs) zero zero x y up at_i at_j order = let same : x ≡ y = same_Some x y (sym at_i ∙ at_j) in
    omega (arith, ap (λ (z : Cuboid). index_of z.view) same)
not_below (c ∷ cs) zero (suc j) x y up at_i at_j order =
    let same : c ≡ x = same_Some c x at_i in
    omega (arith, above c cs up j y at_j, ap (λ (z : Cuboid). index_of z.view) same)
not_below (c ∷ cs) (suc i) zero x y up at_i at_j order = absurd (omega (arith, order))
not_below (c ∷ cs) (suc i) (suc j) x y up at_i at_j order =
    not_below cs i j x y (up_tail c cs up) at_i at_j (omega (arith, order))

-- the cuboid of which the root of a warehouse says something at a place
pub stored_there : (c : Content) (w : Warehouse) (root : PlainRoot) (said : StoredCuboid) (place : ℕ) → Represents c w
    → root_of w ≡ root → slice_get root.cuboids place ≡ Some said
    → (old : Cuboid) × (slice_get w.cuboids place ≡ Some old) × HasStored root said w old
stored_there c w root said place represents root_is is = by (slice_get w.cuboids place) refl
  where
    by : (o : Option Cuboid) → slice_get w.cuboids place ≡ o → (old : Cuboid) × (slice_get w.cuboids place ≡ Some old)
        × HasStored root said w old
    by None e =
        let none : None ≡ Some said = sym (slice_get-map said_of w.cuboids place ∙ ap (option_map said_of) e)
        ∙ ap (λ (r : PlainRoot). slice_get r.cuboids place) root_is ∙ is in absurd cc
    by (Some old) e =
        let own : Some (said_of old) ≡ Some said =
        sym (slice_get-map said_of w.cuboids place ∙ ap (option_map said_of) e)
        ∙ ap (λ (r : PlainRoot). slice_get r.cuboids place) root_is ∙ is in
        let said_is : said_of old ≡ said = cc in
        let found = own_view w.cuboids place old represents.root.proper.ascending e in
        let within = slice_get_within w.cuboids place old e in (
          old,
          e,
          record {
            root_is = sym root_is;
            found = ap (λ (n : ℕ). cuboid_at n w.cuboids) (ap (λ (s : StoredCuboid). s.view) (sym said_is)) ∙ found;
            said_is = said_is;
            holds = subst (λ (x : Cuboid). HoldsGroupings w x) (get_or_from_slice_get w.cuboids place old old e)
                (represents.cuboids place old within);
          },
        )

-- ---- a cuboid is changed in the place of its view

abbrev pub change_at : (Cuboid → Cuboid) → ℕ → List Cuboid → List Cuboid
change_at change number cuboids = map (λ other. if index_of other.view == number then change other else other) cuboids

abbrev pub changed : (Cuboid → Cuboid) → ℕ → Warehouse → Warehouse
changed change number w = record w { cuboids = change_at change number w.cuboids }

kept_on : (change : Cuboid → Cuboid) (number : ℕ) (cuboids : List Cuboid) → RaisesMarks change
    → AreKeptOn cuboids (change_at change number cuboids)
kept_on change number [] goes_on = tt
kept_on change number (c ∷ cs) goes_on =
    let rest = kept_on change number cs goes_on in
    elim (index_of c.view == number) as
    (λ t. ((if t then change c else c).view ≡ c.view) × (c.mark ≤ (if t then change c else c).mark)
    × AreKeptOn cs (change_at change number cs)) [
      | true ↦ (goes_on.view c, goes_on.mark c, rest)
      | false ↦ (refl, omega arith, rest)
    ]

pub changed_caught : (change : Cuboid → Cuboid) (number : ℕ) (w : Warehouse) → RaisesMarks change
    → IsCaughtUp w (changed change number w)
changed_caught change number w goes_on = record {
  kept = record { facts = refl; cuboids = kept_on change number w.cuboids goes_on };
  target = refl;
}

map_same : {A B : Type 0} (f g : A → B) (xs : List A) → ((k : ℕ) (x : A) → slice_get xs k ≡ Some x → f x ≡ g x)
    → map f xs ≡ map g xs
map_same f g [] same = refl
map_same f g (x ∷ xs) same = λ i. same 0 x refl i ∷ map_same f g xs (λ k. same (suc k)) i

-- where there is one cuboid of that view, it is put in its place
pub changed_is : (change : Cuboid → Cuboid) (number : ℕ) (old : Cuboid) (cuboids : List Cuboid) → RaisesMarks change
    → ViewsAscend (map said_of cuboids) → index_of old.view ≡ number
    → cuboid_at number cuboids ≡ Some old → change_at change number cuboids ≡ put_cuboid (change old) cuboids
changed_is change number old cuboids goes_on up number_is found =
    let new_is : index_of (change old).view ≡ number = ap index_of (goes_on.view old) ∙ number_is in
    map_same (λ other. if index_of other.view == number then change other else other)
    (λ other. if index_of other.view == index_of (change old).view then change old else other) cuboids
    (λ k x is. each k x is new_is)
  where
    each : (k : ℕ) (x : Cuboid) → slice_get cuboids k ≡ Some x → index_of (change old).view ≡ number
        → (if index_of x.view == number then change x else x)
        ≡ (if index_of x.view == index_of (change old).view then change old else x)
    each k x is new_is =
        (elim (index_of x.view == number) as (λ t. (index_of x.view == number) ≡ t
        → (if t then change x else x) ≡ (if t then change old else x)) [
          | true ↦ λ e.
              (let same : index_of x.view ≡ number = grind (arith, nat_tests, e) in
              let own : x ≡ old =
              same_Some x old (sym (own_view cuboids k x up is) ∙ ap (λ (n : ℕ). cuboid_at n cuboids) same
              ∙ found) in
              ap change own)
          | false ↦ λ e. refl
        ]) refl
        ∙ ap (λ (n : ℕ). if index_of x.view == n then change old else x) (sym new_is)

-- ---- the root with a cuboid

said_put : (new : Cuboid) (cuboids : List Cuboid)
    → map said_of (put_cuboid new cuboids) ≡ roots.put_stored_cuboid (said_of new) (map said_of cuboids)
said_put new [] = refl
said_put new (c ∷ cs) =
    let first : said_of (if index_of c.view == index_of new.view then new else c)
    ≡ (if index_of c.view == index_of new.view then said_of new else said_of c) =
    elim (index_of c.view == index_of new.view) as
    (λ t. said_of (if t then new else c) ≡ (if t then said_of new else said_of c)) [ true ↦ refl | false ↦ refl ] in
    λ i. first i ∷ said_put new cs i

pub root_kept : (w : Warehouse) (new : Cuboid) (root : PlainRoot) (after : StoredCuboid) → root ≡ root_of w
    → said_of new ≡ after → with_cuboid after root ≡ root_of (kept w new)
root_kept w new root after root_is after_is =
    ap (λ (r : PlainRoot). with_cuboid after r) root_is
    ∙ ap (λ (s : StoredCuboid). with_cuboid s (root_of w)) (sym after_is)
    ∙ ap (λ (l : List StoredCuboid). record (root_of w) { cuboids = l }) (sym (said_put new w.cuboids))

pub same_length : (after : StoredCuboid) (root : PlainRoot)
    → length (with_cuboid after root).cuboids ≡ length root.cuboids
same_length after root = length-map root.cuboids (λ other. if other.view == after.view then after else other)
