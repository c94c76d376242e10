-- Cuboids that are brought on one after another.
use Rattle.std.proofs.Common.{◌≡◌, ◌⊎◌, ⊎_elim, inl, inr, ℕ, ◌+◌, ◌≤◌, ◌<◌, zero, suc, Option, Some, None, List, []}
use Rattle.std.proofs.Common.{◌∷◌, length, get_or, take, slice_get, map, All, refl, sym, ◌∙◌, ap, subst, arith}
use Rattle.std.specs.Option.{option_or}
use Rattle.std.proofs.lemmas.Bool.{cases_eq, cases_lt}
use Rattle.std.proofs.lemmas.Option.{slice_get-get_or}
use Rattle.cube_model.specs.Admission.{all_rows}
use Rattle.cube_model.specs.declared.rows.DimRows.{DimRows}
use Rattle.lattice.specs.declared.view.View.{View}
use Rattle.lattice.specs.Views.{index_of}
use Rattle.object_store.specs.Content.{Content}
use Rattle.object_store.specs.Disk.{Disk, Leaves}
use Rattle.object_store.proofs.Moments.{leaves_then, leaves_weaker}
use Rattle.cuboid_upkeep.specs.Steps.{HaveTooMany}
use Rattle.warehouse_root.specs.Modes.{kept_modes}
use Rattle.warehouse_root.specs.Root.{ViewsAscend}
use Rattle.warehouse_objects.specs.Facts.{Facts}
use Rattle.warehouse_objects.specs.Warehouse.{Cuboid, Warehouse, cuboid_at, ship_modes_of}
use Rattle.warehouse_objects.specs.Represents.{AreItsMembers, Represents, said_of}
use Rattle.stored_cuboids.specs.Keeping.{AreKeptOn, IsCaughtUp, IsDone, IsKeptUp, IsReached, IsReachedOrLarge}
use Rattle.stored_cuboids.specs.Keeping.{IsTooLarge}
use Rattle.stored_cuboids.proofs.Places.{not_below, own_view}

on_same : (cuboids : List Cuboid) → AreKeptOn cuboids cuboids
on_same [] = tt
on_same (cuboid ∷ cuboids) = (refl, omega arith, on_same cuboids)

on_then : (a b c : List Cuboid) → AreKeptOn a b → AreKeptOn b c → AreKeptOn a c
on_then [] [] [] first second = tt
on_then [] [] (z ∷ c) first second = absurd second
on_then [] (y ∷ b) c first second = absurd first
on_then (x ∷ a) [] c first second = absurd first
on_then (x ∷ a) (y ∷ b) [] first second = absurd second
on_then (x ∷ a) (y ∷ b) (z ∷ c) first second =
    (second.0 ∙ first.0, omega (arith, first.1, second.1), on_then a b c first.2 second.2)

-- nothing was brought on
pub kept_same : (w : Warehouse) → IsKeptUp w w
kept_same w = record { facts = refl; cuboids = on_same w.cuboids }

pub kept_then : (a b c : Warehouse) → IsKeptUp a b → IsKeptUp b c → IsKeptUp a c
kept_then a b c first second = record {
  facts = second.facts ∙ first.facts;
  cuboids = on_then a.cuboids b.cuboids c.cuboids first.cuboids second.cuboids;
}

-- the rows and the batches stay
rows_kept : (w v : Warehouse) → IsKeptUp w v → v.rows ≡ w.rows
rows_kept w v kept = ap (λ (facts : Facts). facts.rows) kept.facts

pub batches_kept : (w v : Warehouse) → IsKeptUp w v → v.batches ≡ w.batches
batches_kept w v kept = ap (λ (facts : Facts). facts.batches) kept.facts

-- so do the ship modes
pub members_kept : (w v : Warehouse) (rows : DimRows) (modes : List (List ℕ)) → IsKeptUp w v
    → AreItsMembers w rows modes → AreItsMembers v rows modes
members_kept w v rows modes kept are = record {
  rows = are.rows ∙ sym (rows_kept w v kept);
  modes = are.modes
      ∙ ap (λ (facts : Facts). kept_modes facts.layout (all_rows facts.batches)) (sym kept.facts);
}

pub same : (w : Warehouse) → IsCaughtUp w w
same w = record { kept = kept_same w; target = refl }

pub then_more : (a b c : Warehouse) → IsCaughtUp a b → IsCaughtUp b c → IsCaughtUp a c
then_more a b c first second =
    record { kept = kept_then a b c first.kept second.kept; target = second.target ∙ first.target }

-- the cuboid at a place before
pub was_there : (olds news : List Cuboid) (place : ℕ) (new : Cuboid) → AreKeptOn olds news
    → slice_get news place ≡ Some new
    → (old : Cuboid) × (slice_get olds place ≡ Some old) × (new.view ≡ old.view) × (old.mark ≤ new.mark)
was_there [] [] place new on is = absurd cc
was_there [] (y ∷ ys) place new on is = absurd on
was_there (x ∷ xs) [] place new on is = absurd on
was_there (x ∷ xs) (y ∷ ys) zero new on is =
    let own : y ≡ new = cc is in
    (x, refl, subst (λ (c : Cuboid). c.view ≡ x.view) own on.0, subst (λ (c : Cuboid). x.mark ≤ c.mark) own on.1)
was_there (x ∷ xs) (y ∷ ys) (suc place) new on is = was_there xs ys place new on.2 is

-- and after
pub is_there : (olds news : List Cuboid) (place : ℕ) (old : Cuboid) → AreKeptOn olds news
    → slice_get olds place ≡ Some old
    → (new : Cuboid) × (slice_get news place ≡ Some new) × (new.view ≡ old.view) × (old.mark ≤ new.mark)
is_there [] [] place old on is = absurd cc
is_there [] (y ∷ ys) place old on is = absurd on
is_there (x ∷ xs) [] place old on is = absurd on
is_there (x ∷ xs) (y ∷ ys) zero old on is =
    let own : x ≡ old = cc is in
    (y, refl, subst (λ (c : Cuboid). y.view ≡ c.view) own on.0, subst (λ (c : Cuboid). c.mark ≤ y.mark) own on.1)
is_there (x ∷ xs) (y ∷ ys) (suc place) old on is = is_there xs ys place old on.2 is

-- what is too large stays so
pub still_large : (w v : Warehouse) (view : View) → IsCaughtUp w v → IsTooLarge w view → IsTooLarge v view
still_large w v view caught large =
    subst (λ (facts : Facts). HaveTooMany facts.rows (kept_modes facts.layout (all_rows facts.batches)) view
    (all_rows (take v.target facts.batches))) (sym caught.kept.facts)
    (subst (λ (target : ℕ). HaveTooMany w.rows (ship_modes_of w) view (all_rows (take target w.batches)))
    (sym caught.target) large)

-- the first cuboid that was passed over, among the first so many
pub record IsFirstPassed (count : ℕ) (view : View) (w : Warehouse) : Type 0 where
  pub place : ℕ
  pub within : place < count
  pub cuboid : Cuboid
  pub there : slice_get w.cuboids place ≡ Some cuboid
  pub view_is : cuboid.view ≡ view
  pub large : IsTooLarge w view
  pub others : (k : ℕ) (other : Cuboid) → k < count → slice_get w.cuboids k ≡ Some other → (w.target ≤ other.mark)
      ⊎ (IsTooLarge w other.view × (place ≤ k))

-- of the first so many each holds as many batches as it is to, but those that were passed over
abbrev pub AreReached : ℕ → Option View → Warehouse → Type 0
AreReached count None w = (k : ℕ) (other : Cuboid) → k < count → slice_get w.cuboids k ≡ Some other
    → w.target ≤ other.mark
AreReached count (Some view) w = IsFirstPassed count view w

pub none_yet : (w : Warehouse) → AreReached 0 None w
none_yet w k other less is = absurd (omega (arith, less))

pub still_reached : (w v : Warehouse) (count : ℕ) (first : Option View) → IsCaughtUp w v → AreReached count first w
    → AreReached count first v
still_reached w v count None caught reached = λ k other less is.
    let was = was_there w.cuboids v.cuboids k other caught.kept.cuboids is in
    omega (arith, reached k was.0 less was.1, was.3, caught.target)
still_reached w v count (Some view) caught reached =
    let now = is_there w.cuboids v.cuboids reached.place reached.cuboid caught.kept.cuboids reached.there in record {
      place = reached.place;
      within = reached.within;
      cuboid = now.0;
      there = now.1;
      view_is = now.2 ∙ reached.view_is;
      large = still_large w v view caught reached.large;
      others = λ k other less is.
          let was = was_there w.cuboids v.cuboids k other caught.kept.cuboids is in
          ⊎_elim {C = (v.target ≤ other.mark) ⊎ (IsTooLarge v other.view × (reached.place ≤ k))}
          (λ far. inl (omega (arith, far, was.3, caught.target)))
          (λ many. inr (
            subst (λ (one : View). IsTooLarge v one) (sym was.2) (still_large w v was.0.view caught many.0),
            many.1,
          ))
          (reached.others k was.0 less was.1);
    }

-- one more
pub one_more : (w : Warehouse) (count : ℕ) (first passed : Option View) (here : Cuboid)
    → slice_get w.cuboids count ≡ Some here → AreReached count first w → IsReached passed w here
    → AreReached (count + 1) (option_or first passed) w
one_more w count None None here here_is before reached = λ k other less is.
    ⊎_elim {C = w.target ≤ other.mark}
    (λ e. (let same : other ≡ here = let both : Some other ≡ Some here = sym is
    ∙ ap (λ (n : ℕ). slice_get w.cuboids n) e ∙ here_is in cc in
    subst (λ (c : Cuboid). w.target ≤ c.mark) (sym same) reached))
    (λ ne. before k other (omega (arith, less, ne)) is) (cases_eq k count)
one_more w count None (Some view) here here_is before reached = record {
  place = count;
  within = omega arith;
  cuboid = here;
  there = here_is;
  view_is = reached.0;
  large = reached.1;
  others = λ k other less is.
      ⊎_elim {C = (w.target ≤ other.mark) ⊎ (IsTooLarge w other.view × (count ≤ k))}
      (λ e. (let same : other ≡ here = let both : Some other ≡ Some here = sym is
      ∙ ap (λ (n : ℕ). slice_get w.cuboids n) e ∙ here_is in cc in
      inr (
        subst (λ (one : View). IsTooLarge w one) (sym (ap (λ (c : Cuboid). c.view) same ∙ reached.0)) reached.1,
        omega (arith, e),
      )))
      (λ ne. inl (before k other (omega (arith, less, ne)) is)) (cases_eq k count);
}
one_more w count (Some view) passed here here_is before reached = record {
  place = before.place;
  within = omega (arith, before.within);
  cuboid = before.cuboid;
  there = before.there;
  view_is = before.view_is;
  large = before.large;
  others = λ k other less is.
      ⊎_elim {C = (w.target ≤ other.mark) ⊎ (IsTooLarge w other.view × (before.place ≤ k))}
      (λ e. (let same : other ≡ here = let both : Some other ≡ Some here = sym is
      ∙ ap (λ (n : ℕ). slice_get w.cuboids n) e ∙ here_is in cc in
      by_passed passed reached other same k (omega (arith, e, before.within))))
      (λ ne. before.others k other (omega (arith, less, ne)) is) (cases_eq k count);
}
  where
    by_passed : (p : Option View) → IsReached p w here → (other : Cuboid) → other ≡ here → (k : ℕ) → before.place ≤ k
        → (w.target ≤ other.mark) ⊎ (IsTooLarge w other.view × (before.place ≤ k))
    by_passed None far other same k le = inl (subst (λ (c : Cuboid). w.target ≤ c.mark) (sym same) far)
    by_passed (Some one) many other same k le =
        inr (subst (λ (v : View). IsTooLarge w v) (sym (ap (λ (c : Cuboid). c.view) same ∙ many.0)) many.1, le)

-- each of a lower view than the next one
pub lower_reached : (w : Warehouse) (count : ℕ) (first : Option View) (here : Cuboid)
    → ViewsAscend (map said_of w.cuboids) → slice_get w.cuboids count ≡ Some here → AreReached count first w
    → All (λ other. index_of other.view < index_of here.view → IsReachedOrLarge w other) w.cuboids
lower_reached w count first here up here_is reached = λ k d within lower.
    let is = slice_get-get_or w.cuboids k d within in
    ⊎_elim {C = IsReachedOrLarge w (get_or w.cuboids k d)}
    (λ before. by_first first reached k (get_or w.cuboids k d) before is)
    (λ later. absurd
    (omega (arith, lower, not_below w.cuboids count k here (get_or w.cuboids k d) up here_is is later)))
    (cases_lt k count)
  where
    by_first : (f : Option View) → AreReached count f w → (k : ℕ) (other : Cuboid) → k < count
        → slice_get w.cuboids k ≡ Some other → IsReachedOrLarge w other
    by_first None reached k other less is = inl (reached k other less is)
    by_first (Some view) reached k other less is =
        ⊎_elim {C = IsReachedOrLarge w other} (λ far. inl far) (λ many. inr many.0) (reached.others k other less is)

-- all of them
pub all_done : (w : Warehouse) (count : ℕ) (first : Option View) → ViewsAscend (map said_of w.cuboids)
    → length w.cuboids ≤ count → AreReached count first w → IsDone w first
all_done w count None up all reached =
    λ k d within. reached k (get_or w.cuboids k d) (omega (arith, within, all)) (slice_get-get_or w.cuboids k d within)
all_done w count (Some view) up all reached = record {
  cuboid = reached.cuboid;
  stored = ap (λ (v : View). cuboid_at (index_of v) w.cuboids) (sym reached.view_is)
      ∙ own_view w.cuboids reached.place reached.cuboid up reached.there;
  large = subst (λ (v : View). IsTooLarge w v) (sym reached.view_is) reached.large;
  others = λ k d within.
      let is = slice_get-get_or w.cuboids k d within in
      ⊎_elim {C = (w.target ≤ (get_or w.cuboids k d).mark)
      ⊎ (IsTooLarge w (get_or w.cuboids k d).view × (index_of view ≤ index_of (get_or w.cuboids k d).view))}
      (λ far. inl far)
      (λ many. inr (
        many.0,
        subst (λ (v : View). index_of v ≤ index_of (get_or w.cuboids k d).view) reached.view_is
            (not_below w.cuboids reached.place k reached.cuboid (get_or w.cuboids k d) up reached.there is many.1),
      ))
      (reached.others k (get_or w.cuboids k d) (omega (arith, within, all)) is);
}

-- each of them holds as many batches as it is to, or is too large
pub done_or_large : (w : Warehouse) (passed : Option View) → IsDone w passed → All (IsReachedOrLarge w) w.cuboids
done_or_large w None done = λ k d within. inl (done k d within)
done_or_large w (Some view) done = λ k d within. ⊎_elim {C = IsReachedOrLarge w (get_or w.cuboids k d)} (λ far. inl far)
    (λ many. inr many.0) (done.others k d within)

pub leaves_first : (w : Warehouse) (old new : Disk) → Leaves old new (λ c. Represents c w)
    → Leaves old new (λ c. (v : Warehouse) × IsCaughtUp w v × Represents c v)
leaves_first w old new =
    leaves_weaker (λ (c : Content). Represents c w) (λ (c : Content). (v : Warehouse) × IsCaughtUp w v × Represents c v)
    old new (λ k c represents. (w, same w, represents))

pub leaves_more : (w v : Warehouse) (old mid new : Disk) → IsCaughtUp w v
    → Leaves old mid (λ c. (x : Warehouse) × IsCaughtUp w x × Represents c x)
    → Leaves mid new (λ c. (x : Warehouse) × IsCaughtUp v x × Represents c x)
    → Leaves old new (λ c. (x : Warehouse) × IsCaughtUp w x × Represents c x)
leaves_more w v old mid new caught first second =
    leaves_then (λ (c : Content). (x : Warehouse) × IsCaughtUp w x × Represents c x) old mid new first
    (leaves_weaker (λ (c : Content). (x : Warehouse) × IsCaughtUp v x × Represents c x)
    (λ (c : Content). (x : Warehouse) × IsCaughtUp w x × Represents c x) mid new
    (λ k c there. (there.0, then_more w v there.0 caught there.1, there.2)) second)
