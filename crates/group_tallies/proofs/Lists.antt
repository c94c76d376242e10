-- Lists in order, and lists of numbers that differ.
use Rattle.std.proofs.Common.{◌≡◌, ◌≢◌, ◌∙◌, sym, ap, refl, ℕ, zero, suc, ◌<◌, true, false, List, [], ◌∷◌, map, length}
use Rattle.std.proofs.Common.{get_or, arith}
use Rattle.std.specs.List.{AllByRecursion, AllPairs, IsDistinct}
use Rattle.std.specs.declared.cmp.Ordering.{Ordering}
use Rattle.std.specs.declared.cmp.Ordering.TheVariants.{Less}
use Rattle.std.specs.Ordering.{nat_cmp, eq_by_cmp}
use Rattle.std.proofs.lemmas.Cmp.{nat_cmp_total, eq_by_cmp_equiv}
use Rattle.std.proofs.lemmas.List.{get_or_default, length-map}
use Rattle.cube_model.specs.Ascending.{IsAscending}
use Rattle.cube_model.specs.declared.rows.LineOrder.{LineOrder}
use Rattle.group_numbers.specs.Rows.{no_row, row_at}

each_from : {X : Type 0} (P : X → Type 0) (xs : List X) → ((j : ℕ) (d : X) → j < length xs → P (get_or xs j d))
    → AllByRecursion P xs
each_from P [] each = tt
each_from P (x ∷ xs) each = (each 0 x (omega arith), each_from P xs (λ j d h. each (suc j) d (omega (arith, h))))

pub ascending_from : {X : Type 0} (R : X → X → Ordering) (xs : List X) → AllPairs (λ x y. R x y ≡ Less) xs
    → IsAscending R xs
ascending_from R [] pairs = tt
ascending_from R (x ∷ xs) pairs = (
  each_from (λ y. R x y ≡ Less) xs (λ j d h. pairs 0 (suc j) d (omega arith) (omega (arith, h))),
  ascending_from R xs (λ i j d below h. pairs (suc i) (suc j) d (omega (arith, below)) (omega (arith, h))),
)

each-map : {X Y : Type 0} (P : Y → Type 0) (f : X → Y) (xs : List X) → AllByRecursion (λ x. P (f x)) xs
    → AllByRecursion P (map f xs)
each-map P f [] all = tt
each-map P f (x ∷ xs) all = (all.0, each-map P f xs all.1)

pub IsAscending-map : {X Y : Type 0} (R : Y → Y → Ordering) (f : X → Y) (xs : List X)
    → IsAscending (λ x y. R (f x) (f y)) xs → IsAscending R (map f xs)
IsAscending-map R f [] sorted = tt
IsAscending-map R f (x ∷ xs) sorted = (each-map (λ y. R (f x) y ≡ Less) f xs sorted.0, IsAscending-map R f xs sorted.1)

pub map-twice : {X Y Z : Type 0} (g : Y → Z) (f : X → Y) (xs : List X) → map g (map f xs) ≡ map (λ x. g (f x)) xs
map-twice g f [] = refl
map-twice g f (x ∷ xs) = ap (λ rest. g (f x) ∷ rest) (map-twice g f xs)

pub numbers_apart : (xs : List ℕ) → IsDistinct (eq_by_cmp nat_cmp) xs → AllPairs (λ x y. x ≢ y) xs
unfolding IsDistinct
numbers_apart [] apart i j d below h = absurd (omega (arith, h))
numbers_apart (x ∷ xs) apart zero zero d below h = absurd (omega (arith, below))
numbers_apart (x ∷ xs) apart (suc i) zero d below h = absurd (omega (arith, below))
numbers_apart (x ∷ xs) apart zero (suc j) d below h = differ xs j apart.0 (omega (arith, h))
  where
    differ : (ys : List ℕ) (k : ℕ) → AllByRecursion (λ y. eq_by_cmp nat_cmp x y ≡ false) ys → k < length ys
        → x ≢ get_or ys k d
    differ [] k all lt = absurd (omega (arith, lt))
    differ (y ∷ ys) zero all lt =
        λ same. (let equal : eq_by_cmp nat_cmp x y ≡ true = ap (eq_by_cmp nat_cmp x) (sym same)
        ∙ (eq_by_cmp_equiv nat_cmp_total).refl x in absurd (cc (equal, all.0)))
    differ (y ∷ ys) (suc k) all lt = differ ys k all.1 (omega (arith, lt))
numbers_apart (x ∷ xs) apart (suc i) (suc j) d below h =
    numbers_apart xs apart.1 i j d (omega (arith, below)) (omega (arith, h))

pub get_or-map : {X Y : Type 0} (f : X → Y) (xs : List X) (i : ℕ) (d : X) → i < length xs
    → get_or (map f xs) i (f d) ≡ f (get_or xs i d)
get_or-map f [] i d h = absurd (omega (arith, h))
get_or-map f (x ∷ xs) zero d h = refl
get_or-map f (x ∷ xs) (suc i) d h = get_or-map f xs i d (omega (arith, h))

pub length_same : {X Y : Type 0} (f : X → Y) (xs : List X) → length (map f xs) ≡ length xs
length_same f [] = refl
length_same f (x ∷ xs) = ap suc (length_same f xs)

-- where the texts of codes are the ship modes of rows, so are they at each place
pub text_at_place : (text : ℕ → List ℕ) (codes : List ℕ) (rows : List LineOrder) (place : ℕ)
    → map text codes ≡ map (λ row. row.shipmode) rows → place < length rows
    → text (get_or codes place 0) ≡ (row_at rows place).shipmode
text_at_place text codes rows place same h =
    let mode : LineOrder → List ℕ = λ row. row.shipmode in
    let many : length codes ≡ length rows = sym (length-map codes text) ∙ ap length same ∙ length-map rows mode in
    sym (get_or-map text codes place 0 (omega (arith, h, many)))
    ∙ ap (λ texts. get_or texts place (text 0)) same
    ∙ get_or_default (map mode rows) place (text 0) (mode no_row) (omega (arith, h, length-map rows mode))
    ∙ get_or-map mode rows place no_row h

-- where the numbers of bytes are those of rows, so are they at each place
pub number_at_place : (f : List ℕ → ℕ) (column : List (List ℕ)) (number : LineOrder → ℕ) (rows : List LineOrder)
    (place : ℕ) (default : List ℕ)
    → map f column ≡ map number rows → place < length rows
    → f (get_or column place default) ≡ number (row_at rows place)
number_at_place f column number rows place default same h =
    let many : length column ≡ length rows = sym (length-map column f) ∙ ap length same ∙ length-map rows number in
    sym (get_or-map f column place default (omega (arith, h, many)))
    ∙ ap (λ numbers. get_or numbers place (f default)) same
    ∙ get_or_default (map number rows) place (f default) (number no_row) (omega (arith, h, length-map rows number))
    ∙ get_or-map number rows place no_row h
