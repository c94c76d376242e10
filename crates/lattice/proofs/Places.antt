-- Where a view is in the lattice.
use Rattle.std.proofs.Common.{◌≡◌, ℕ, zero, suc, ◌+◌, ◌*◌, ◌<◌, Bool, true, false, List, [], ◌∷◌, ◌++◌, length, map}
use Rattle.std.proofs.Common.{refl, sym, ap, ◌∙◌, arith}
use Rattle.std.specs.Prelude.{Some, slice_get}
use Rattle.std.specs.List.{flat_map}
use Rattle.std.proofs.lemmas.Option.{same_Some, slice_get_within}
use Rattle.lattice.specs.declared.level.Level.{Level}
use Rattle.lattice.specs.declared.level.Level.TheVariants.{Lowest, Middle, Highest, All}
use Rattle.lattice.specs.declared.view.View.{View}
use Rattle.lattice.specs.Levels.{height, levels}
use Rattle.lattice.specs.Views.{index_of, views_with, lattice}

module _ {X : Type 0} where
  -- a place in the first of two lists, or in the second
  pub in_first : (xs ys : List X) (i : ℕ) → i < length xs → slice_get (xs ++ ys) i ≡ slice_get xs i
  in_first [] ys i h = absurd (omega arith)
  in_first (x ∷ xs) ys zero h = refl
  in_first (x ∷ xs) ys (suc i) h = in_first xs ys i (omega arith)

  pub in_second : (xs ys : List X) (i k : ℕ) → i ≡ length xs + k → slice_get (xs ++ ys) i ≡ slice_get ys k
  in_second [] ys i k e = let same : i ≡ k = omega arith in ap (slice_get ys) same
  in_second (x ∷ xs) ys zero k e = absurd (omega arith)
  in_second (x ∷ xs) ys (suc i) k e = in_second xs ys i k (omega arith)

  -- a place in the lists of the four levels, one after the other and each of one length
  pub in_level : (f : Level → List X) (n : ℕ) → ((level : Level) → length (f level) ≡ n) → (level : Level) (j : ℕ)
      → j < n
      → slice_get (flat_map f levels) (n * height level + j) ≡ slice_get (f level) j
  in_level f n long Lowest j below =
      ap (slice_get (flat_map f levels)) (omega arith) ∙ in_first (f Lowest) _ j (omega (arith, long Lowest))
  in_level f n long Middle j below =
      in_second (f Lowest) _ (n * 1 + j) j (omega (arith, long Lowest))
      ∙ in_first (f Middle) _ j (omega (arith, long Middle))
  in_level f n long Highest j below =
      in_second (f Lowest) _ (n * 2 + j) (n + j) (omega (arith, long Lowest))
      ∙ in_second (f Middle) _ (n + j) j (omega (arith, long Middle))
      ∙ in_first (f Highest) _ j (omega (arith, long Highest))
  in_level f n long All j below =
      in_second (f Lowest) _ (n * 3 + j) (n + n + j) (omega (arith, long Lowest))
      ∙ in_second (f Middle) _ (n + n + j) (n + j) (omega (arith, long Middle))
      ∙ in_second (f Highest) _ (n + j) j (omega (arith, long Highest))
      ∙ in_first (f All) [] j (omega (arith, long All))

pub height_below : (level : Level) → height level < 4
height_below Lowest = omega arith
height_below Middle = omega arith
height_below Highest = omega arith
height_below All = omega arith

-- a view that groups by ship mode, or one that does not, among its like
place_among : (m : Bool) (c s p d : Level)
    → slice_get (views_with m) (64 * height c + (16 * height s + (4 * height p + height d)))
    ≡ Some (record { customer = c; supplier = s; part = p; date = d; ship_mode = m })
place_among m c s p d =
    let below_s : height s < 4 = height_below s in
    let below_p : height p < 4 = height_below p in
    let below_d : height d < 4 = height_below d in
    in_level (λ customer. flat_map
    (λ supplier. flat_map
    (λ part. map
    (λ date. record { customer = customer; supplier = supplier; part = part; date = date; ship_mode = m }) levels)
    levels) levels)
    64 (λ _. refl) c (16 * height s + (4 * height p + height d)) (omega arith)
    ∙ in_level (λ supplier. flat_map
    (λ part. map (λ date. record { customer = c; supplier = supplier; part = part; date = date; ship_mode = m })
    levels) levels)
    16 (λ _. refl) s (4 * height p + height d) (omega arith)
    ∙ in_level (λ part. map (λ date. record { customer = c; supplier = s; part = part; date = date; ship_mode = m })
    levels)
    4 (λ _. refl) p (height d) (omega arith)
    ∙ among_dates d
  where
    among_dates : (date : Level)
        → slice_get {X = View}
        (map (λ date. record { customer = c; supplier = s; part = p; date = date; ship_mode = m }) levels) (height date)
        ≡ Some (record { customer = c; supplier = s; part = p; date = date; ship_mode = m })
    among_dates Lowest = refl
    among_dates Middle = refl
    among_dates Highest = refl
    among_dates All = refl

low_below : (c s p d : Level) → 64 * height c + (16 * height s + (4 * height p + height d)) < 256
low_below c s p d =
    let below_c : height c < 4 = height_below c in
    let below_s : height s < 4 = height_below s in
    let below_p : height p < 4 = height_below p in
    let below_d : height d < 4 = height_below d in
    omega arith

place_by : (m : Bool) (c s p d : Level)
    → slice_get (lattice true) (index_of (record { customer = c; supplier = s; part = p; date = d; ship_mode = m }))
    ≡ Some (record { customer = c; supplier = s; part = p; date = d; ship_mode = m })
place_by false c s p d =
    let low : ℕ = 64 * height c + (16 * height s + (4 * height p + height d)) in
    let same : 0 + low ≡ low = omega arith in
    ap (slice_get (views_with false ++ views_with true)) same
    ∙ in_first (views_with false) (views_with true) low (low_below c s p d)
    ∙ place_among false c s p d
place_by true c s p d =
    let low : ℕ = 64 * height c + (16 * height s + (4 * height p + height d)) in
    in_second (views_with false) (views_with true) (256 + low) low refl ∙ place_among true c s p d

-- a view is at its number
pub place_of : (view : View) → slice_get (lattice true) (index_of view) ≡ Some view
place_of view = place_by view.ship_mode view.customer view.supplier view.part view.date

pub one_view : (view other : View) → index_of view ≡ index_of other → view ≡ other
one_view view other same =
    same_Some view other (sym (place_of view) ∙ ap (slice_get (lattice true)) same ∙ place_of other)

pub index_below : (view : View) → index_of view < length (lattice true)
index_below view = slice_get_within (lattice true) (index_of view) view (place_of view)

-- the first lattice is the front of the second
pub in_lattice : (modes : Bool) (i : ℕ) → i < length (lattice modes)
    → slice_get (lattice true) i ≡ slice_get (lattice modes) i
in_lattice true i h = refl
in_lattice false i h = in_first (views_with false) (views_with true) i h
