-- Lemmas of `copied_cuboids`, by subject.
use Rattle.std.proofs.Common.{◌≡◌, ◌⊎◌, ⊎_elim, inl, inr, ◌∙◌, ℕ, List, [], ◌∷◌, length, map, take, refl, ap}
use Rattle.std.proofs.Common.{subst, arith, ◌+◌, ◌<◌, ◌≤◌, ◌++◌, Option, Some, None, slice_get, sym, add-one}
use Rattle.std.proofs.lemmas.List.{length-map, take_all, map-append}
use Rattle.lattice.specs.declared.view.View.{View}
use Rattle.object_store.specs.Content.{Content}
use Rattle.object_store.specs.Disk.{Disk, Leaves}
use Rattle.object_store.proofs.Moments.{leaves_then, leaves_weaker}
use Rattle.warehouse_objects.specs.Facts.{Facts}
use Rattle.warehouse_objects.specs.Represents.{Represents, said_of}
use Rattle.warehouse_objects.specs.Warehouse.{Cuboid, Warehouse, views_in_order, with_views}
use Rattle.stored_cuboids.specs.Keeping.{AreKeptOn, IsKeptUp}
use Rattle.stored_cuboids.proofs.CallerLemmas.{kept_same}
use Rattle.warehouse.specs.declared.status.Status.{Status}
use Rattle.warehouse.specs.Status.{IsStatus, IsSaidOf, IsSaidAt}
use Rattle.warehouse_jobs.specs.Copied.{AreSaidOf, HoldsPart, IsCopy, IsPart, stored_views_of, with_first}
use Rattle.warehouse_jobs.proofs.CopiedParts.{holds_first}
use Rattle.std.specs.Prelude.{slice_index_or}
use Rattle.std.proofs.lemmas.Bool.{cases_lt}
use Rattle.std.proofs.lemmas.Option.{slice_get_within}
use Rattle.lattice.specs.Laws.{IndexesNameViews}
use Rattle.lattice.specs.Views.{index_of}
use Rattle.cuboid_cells.proofs.CallerLemmas.{views_below}
use Rattle.warehouse_root.specs.declared.cuboid.StoredCuboid.{StoredCuboid}
use Rattle.warehouse_objects.proofs.Batches.{get_within, some_one, take_next}

-- ==== The cuboids of a copy.

kept_views : (olds news : List Cuboid) → AreKeptOn olds news
    → map (λ cuboid. cuboid.view) news ≡ map (λ cuboid. cuboid.view) olds
kept_views [] [] kept = refl
kept_views [] (n ∷ ns) kept = absurd kept
kept_views (o ∷ os) [] kept = absurd kept
kept_views (o ∷ os) (n ∷ ns) kept =
    ap (λ (view : View). view ∷ map (λ (cuboid : Cuboid). cuboid.view) ns) kept.0
    ∙ ap (λ (views : List View). o.view ∷ views) (kept_views os ns kept.2)

-- cuboids of views that hold nothing
new_views : (views : List View)
    → map (λ (cuboid : Cuboid). cuboid.view) (map (λ (view : View). record { view = view; mark = 0; runs = [] }) views)
    ≡ views
new_views [] = refl
new_views (v ∷ vs) = ap (λ (views : List View). v ∷ views) (new_views vs)

module _ (w : Warehouse) (views : List View) (v : Warehouse)
    (kept : IsKeptUp (with_views (with_first w (length w.batches)) views) v) where
  batches_are : v.batches ≡ take (length w.batches) w.batches
  batches_are = ap (λ (facts : Facts). facts.batches) kept.facts

  layout_is : v.layout ≡ w.layout
  layout_is = ap (λ (facts : Facts). facts.layout) kept.facts

  rows_are : v.rows ≡ w.rows
  rows_are = ap (λ (facts : Facts). facts.rows) kept.facts

  pub is_copy : views ≡ stored_views_of w → IsCopy w v
  is_copy same = record {
    layout = layout_is;
    rows = rows_are;
    batches = batches_are ∙ take_all (length w.batches) w.batches (omega arith);
    views = kept_views (with_views (with_first w (length w.batches)) views).cuboids v.cuboids kept.cuboids
        ∙ new_views (views_in_order w.layout views) ∙ ap (views_in_order w.layout) same;
  }

  pub is_part : IsPart w v
  is_part = record { rows = rows_are; count = length w.batches; batches = batches_are }

-- what a crash leaves while the views are put
pub views_leave : (w : Warehouse) (views : List View) (old new : Disk)
    → Leaves old new (λ c. Represents c (with_first w (length w.batches))
    ⊎ ((v : Warehouse) × IsKeptUp (with_views (with_first w (length w.batches)) views) v × Represents c v))
    → Leaves old new (HoldsPart w)
views_leave w views old new leaves =
    leaves_weaker (λ (c : Content). Represents c (with_first w (length w.batches))
    ⊎ ((v : Warehouse) × IsKeptUp (with_views (with_first w (length w.batches)) views) v × Represents c v))
    (HoldsPart w) old new
    (λ k c one. ⊎_elim (λ represents. holds_first w (length w.batches) c represents)
    (λ more. (more.0, is_part w views more.0 more.1, more.2)) one) leaves

-- what a crash leaves in the commit of views, and then in upkeep
abbrev pub Later : Warehouse → List View → Content → Type 0
Later w views c = Represents c w ⊎ ((v : Warehouse) × IsKeptUp (with_views w views) v × Represents c v)

pub commit_leaves : (w : Warehouse) (views : List View) (old new : Disk)
    → Leaves old new (λ c. Represents c w ⊎ Represents c (with_views w views)) → Leaves old new (Later w views)
commit_leaves w views old new leaves =
    leaves_weaker (λ (c : Content). Represents c w ⊎ Represents c (with_views w views)) (Later w views) old new
    (λ k c one. ⊎_elim (λ (represents : Represents c w). inl represents)
    (λ (represents : Represents c (with_views w views)). inr
    (with_views w views, kept_same (with_views w views), represents)) one) leaves

pub upkeep_leaves : (w : Warehouse) (views : List View) (old mid new : Disk)
    → Leaves old mid (λ c. Represents c w ⊎ Represents c (with_views w views))
    → Leaves mid new (λ c. (v : Warehouse) × IsKeptUp (with_views w views) v × Represents c v)
    → Leaves old new (Later w views)
upkeep_leaves w views old mid new first second =
    leaves_then (Later w views) old mid new (commit_leaves w views old mid first)
    (leaves_weaker (λ (c : Content). (v : Warehouse) × IsKeptUp (with_views w views) v × Represents c v) (Later w views)
    mid new (λ k c more. inr more) second)

-- what a session says of its stored cuboids
pub said_are : (w : Warehouse) (c : Content) → Represents c w → (generation : ℕ) (status : Status)
    → IsStatus w generation status → AreSaidOf w.cuboids status.cuboids
said_are w c represents generation status is = record {
  few = omega (arith, represents.root.proper.most_cuboids, length-map w.cuboids said_of);
  each = is.cuboids;
}

-- ==== The views of stored cuboids, by what is said of them in places.

-- what is at a place that is not empty
said_there : (stored : Option Cuboid) (place : Option StoredCuboid) (said : StoredCuboid) → place ≡ Some said
    → IsSaidAt stored place → (cuboid : Cuboid) × (stored ≡ Some cuboid) × IsSaidOf cuboid said
said_there None None said is represents = absurd cc
said_there None (Some other) said is represents = absurd represents
said_there (Some cuboid) None said is represents = absurd represents
said_there (Some cuboid) (Some other) said is represents =
    (cuboid, refl, subst (IsSaidOf cuboid) (some_one other said is) represents)

-- and at one that is
none_there : (stored : Option Cuboid) (place : Option StoredCuboid) → place ≡ None → IsSaidAt stored place
    → stored ≡ None
none_there None place is represents = refl
none_there (Some cuboid) None is represents = absurd represents
none_there (Some cuboid) (Some other) is represents = absurd cc

past : {A : Type 0} (xs : List A) (n : ℕ) → slice_get xs n ≡ None → length xs ≤ n
past xs n none = by (cases_lt n (length xs))
  where
    by : (n < length xs) ⊎ (length xs ≤ n) → length xs ≤ n
    by (inl lt) = let got = get_within xs n lt in let both : None ≡ Some got.0 = sym none ∙ got.1 in absurd cc
    by (inr le) = le

-- so many views are those of the first cuboids
pub record AreFirst (stored : List Cuboid) (count : ℕ) (views : List View) : Type 0 where
  pub within : count ≤ length stored
  pub are : views ≡ map (λ cuboid. cuboid.view) (take count stored)

module _ (stored : List Cuboid) (places : List (Option StoredCuboid)) (said_of : AreSaidOf stored places) where
  pub first_none : AreFirst stored 0 []
  first_none = record { within = omega arith; are = refl }

  module _ (count : ℕ) (low : count < 16) (views : List View) (first : AreFirst stored count views) where
    -- the view at the next place is that of the next cuboid
    pub first_more : (said : StoredCuboid) (view : View) → slice_index_or places count None ≡ Some said
        → index_of view ≡ said.view → IndexesNameViews → AreFirst stored (count + 1) (views ++ view ∷ [])
    first_more said view is same names =
        let here = said_there (slice_get stored count) (slice_index_or places count None) said is
        (said_of.each count low) in
        let own : view ≡ here.0.view = names.one_view view here.0.view (same ∙ here.2.view) in
        let more : take (count + 1) stored ≡ take count stored ++ here.0 ∷ [] =
        ap (λ (n : ℕ). take n stored) (add-one count) ∙ take_next stored count here.0 here.1 in
        record {
          within = omega (arith, slice_get_within stored count here.0 here.1);
          are = ap (λ (v : View). views ++ v ∷ []) own ∙ ap (λ (l : List View). l ++ here.0.view ∷ []) first.are
              ∙ sym (map-append (λ (cuboid : Cuboid). cuboid.view) (take count stored) (here.0 ∷ []))
              ∙ ap (map (λ (cuboid : Cuboid). cuboid.view)) (sym more);
        }

    -- at an empty place there are no more
    pub first_all : slice_index_or places count None ≡ None → views ≡ map (λ cuboid. cuboid.view) stored
    first_all is =
        let end : length stored ≤ count =
        past stored count
        (none_there (slice_get stored count) (slice_index_or places count None) is (said_of.each count low)) in
        first.are ∙ ap (map (λ (cuboid : Cuboid). cuboid.view)) (take_all count stored end)

    -- no cuboid has a number above those of views
    pub never_high : (said : StoredCuboid) → slice_index_or places count None ≡ Some said → 512 ≤ said.view → ⊥
    never_high said is high =
        let here = said_there (slice_get stored count) (slice_index_or places count None) said is
        (said_of.each count low) in
        omega (arith, views_below here.0.view, here.2.view, high)

  pub first_end : (views : List View) → AreFirst stored 16 views → views ≡ map (λ cuboid. cuboid.view) stored
  first_end views first = first.are ∙ ap (map (λ (cuboid : Cuboid). cuboid.view)) (take_all 16 stored said_of.few)
