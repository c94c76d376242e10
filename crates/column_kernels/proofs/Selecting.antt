-- The selected ones of some numbers, and their sum.
use Rattle.std.proofs.Common.{◌≡◌, ℕ, ◌+◌, ◌*◌, ◌<◌, ◌≤◌, Bool, true, false, cond, List, [], ◌∷◌, ◌++◌, length, map}
use Rattle.std.proofs.Common.{replicate, refl, sym, ap, ◌∙◌, arith, ℤ, pos, negsuc, ◌^◌, FitsSigned, ◌+ℤ◌, ◌-ℤ◌}
use Rattle.std.proofs.lemmas.List.Sums.{sum_by-cons, sum_by-append}
use Rattle.std.proofs.lemmas.Int.{ints}
use Rattle.std.specs.Int.{w128}
use Rattle.std.specs.Prelude.{nat_abs}
use Rattle.std.specs.List.{sum, fold}
use Rattle.cube_model.specs.Aggregates.{total}
use Rattle.std.specs.Simd.Lanes.{sum_l, sel_l}
use Rattle.column_kernels.specs.Masks.{selected_by}
use Rattle.column_kernels.specs.Sums.{products, differences, low, high}

pub sum_is : (numbers : List ℕ) → sum numbers ≡ sum_l numbers
sum_is [] = refl
sum_is (x ∷ numbers) = sum_by-cons (λ (n : ℕ). n) x numbers ∙ ap (λ (n : ℕ). x + n) (sum_is numbers)

pub selected-append : {A : Type 0} (ms ns : List Bool) (xs ys : List A) → length ms ≡ length xs
    → selected_by (ms ++ ns) (xs ++ ys) ≡ selected_by ms xs ++ selected_by ns ys
selected-append [] ns [] ys long = refl
selected-append [] ns (x ∷ xs) ys long = absurd (omega (arith, long))
selected-append (m ∷ ms) ns [] ys long = absurd (omega (arith, long))
selected-append (true ∷ ms) ns (x ∷ xs) ys long = ap (λ l. x ∷ l) (selected-append ms ns xs ys (omega (arith, long)))
selected-append (false ∷ ms) ns (x ∷ xs) ys long = selected-append ms ns xs ys (omega (arith, long))

pub sum-append : (xs ys : List ℕ) → sum (xs ++ ys) ≡ sum xs + sum ys
sum-append xs ys = sum_by-append (λ (n : ℕ). n) xs ys

-- lanes that are not selected count as 0
pub sum_chosen : (marks : List Bool) (xs : List ℕ) → length marks ≡ length xs
    → sum_l (sel_l marks xs (replicate (length xs) 0)) ≡ sum_l (selected_by marks xs)
sum_chosen [] [] long = refl
sum_chosen [] (x ∷ xs) long = absurd (omega (arith, long))
sum_chosen (m ∷ marks) [] long = absurd (omega (arith, long))
sum_chosen (true ∷ marks) (x ∷ xs) long = ap (λ (n : ℕ). x + n) (sum_chosen marks xs (omega (arith, long)))
sum_chosen (false ∷ marks) (x ∷ xs) long = omega (arith, sum_chosen marks xs (omega (arith, long)))

pub selected-le : (marks : List Bool) (xs : List ℕ) → sum_l (selected_by marks xs) ≤ sum_l xs
selected-le [] xs = omega arith
selected-le (m ∷ marks) [] = omega arith
selected-le (true ∷ marks) (x ∷ xs) = omega (arith, selected-le marks xs)
selected-le (false ∷ marks) (x ∷ xs) = omega (arith, selected-le marks xs)

-- the halves are added up apart
pub by_halves : (marks : List Bool) (xs : List ℕ)
    → sum_l (selected_by marks xs) ≡ sum_l (selected_by marks (map low xs)) + sum_l (selected_by marks (map high xs)) *
    4294967296
by_halves [] xs = refl
by_halves (m ∷ marks) [] = refl
by_halves (true ∷ marks) (x ∷ xs) = omega (arith, by_halves marks xs)
by_halves (false ∷ marks) (x ∷ xs) = by_halves marks xs

times_halves : (x f : ℕ) → x * f ≡ low x * f + high x * f * 4294967296
times_halves x f =
    let whole : x ≡ low x + high x * 4294967296 = omega arith in
    ap (λ (n : ℕ). n * f) whole ∙ grind arith

pub products_by_halves : (marks : List Bool) (xs fs : List ℕ)
    → sum_l (selected_by marks (products xs fs)) ≡ sum_l (selected_by marks (products (map low xs) fs))
    + sum_l (selected_by marks (products (map high xs) fs)) * 4294967296
products_by_halves [] xs fs = refl
products_by_halves (m ∷ marks) [] fs = refl
products_by_halves (m ∷ marks) (x ∷ xs) [] = refl
products_by_halves (true ∷ marks) (x ∷ xs) (f ∷ fs) = omega (arith, products_by_halves marks xs fs, times_halves x f)
products_by_halves (false ∷ marks) (x ∷ xs) (f ∷ fs) = products_by_halves marks xs fs

total_from : (a : ℤ) (numbers : List ℤ) → fold (λ so_far number. so_far +ℤ number) a numbers ≡ a +ℤ total numbers
total_from a [] = omega (arith, ints)
total_from a (x ∷ numbers) = total_from (a +ℤ x) numbers ∙ omega (arith, ints, total_from (pos 0 +ℤ x) numbers)

pub total-cons : (x : ℤ) (numbers : List ℤ) → total (x ∷ numbers) ≡ x +ℤ total numbers
total-cons x numbers = total_from (pos 0 +ℤ x) numbers ∙ omega (arith, ints)

-- the total of differences is the difference of the sums
pub total_of_differences : (marks : List Bool) (xs ys : List ℕ) → length xs ≡ length ys
    → total (selected_by marks (differences xs ys)) ≡ pos (sum_l (selected_by marks xs)) -ℤ pos
    (sum_l (selected_by marks ys))
total_of_differences [] xs ys long = omega (arith, ints)
total_of_differences (m ∷ marks) [] [] long = omega (arith, ints)
total_of_differences (m ∷ marks) [] (y ∷ ys) long = absurd (omega (arith, long))
total_of_differences (m ∷ marks) (x ∷ xs) [] long = absurd (omega (arith, long))
total_of_differences (true ∷ marks) (x ∷ xs) (y ∷ ys) long =
    total-cons (pos x -ℤ pos y) (selected_by marks (differences xs ys))
    ∙ omega (arith, ints, total_of_differences marks xs ys (omega (arith, long)))
total_of_differences (false ∷ marks) (x ∷ xs) (y ∷ ys) long = total_of_differences marks xs ys (omega (arith, long))

pub one_selected : (b : Bool) (x : ℕ) → sum (selected_by (b ∷ []) (x ∷ [])) ≡ cond b x 0
one_selected true x = omega arith
one_selected false x = refl

-- the lanes that are added up
pub chosen_sum : (marks : List Bool) (xs : List ℕ) (n : ℕ) → length marks ≡ n → length xs ≡ n
    → sum_l (sel_l marks xs (replicate n 0)) ≡ sum (selected_by marks xs)
chosen_sum marks xs n many long =
    ap (λ (m : ℕ). sum_l (sel_l marks xs (replicate m 0))) (sym long) ∙ sum_chosen marks xs (many ∙ sym long)
    ∙ sym (sum_is (selected_by marks xs))

pub sum_by_halves : (marks : List Bool) (xs : List ℕ)
    → sum (selected_by marks xs) ≡ sum (selected_by marks (map low xs))
    + sum (selected_by marks (map high xs)) * 4294967296
sum_by_halves marks xs =
    omega (
      arith,
      by_halves marks xs,
      sum_is (selected_by marks xs),
      sum_is (selected_by marks (map low xs)),
      sum_is (selected_by marks (map high xs)),
    )

pub product_sum_by_halves : (marks : List Bool) (xs fs : List ℕ)
    → sum (selected_by marks (products xs fs)) ≡ sum (selected_by marks (products (map low xs) fs))
    + sum (selected_by marks (products (map high xs) fs)) * 4294967296
product_sum_by_halves marks xs fs =
    omega (
      arith,
      products_by_halves marks xs fs,
      sum_is (selected_by marks (products xs fs)),
      sum_is (selected_by marks (products (map low xs) fs)),
      sum_is (selected_by marks (products (map high xs) fs)),
    )

pub difference_of_sums : (marks : List Bool) (xs ys : List ℕ) → length xs ≡ length ys
    → pos (sum (selected_by marks xs)) -ℤ pos (sum (selected_by marks ys))
    ≡ total (selected_by marks (differences xs ys))
difference_of_sums marks xs ys long =
    ap (λ (n : ℕ). pos n -ℤ pos (sum (selected_by marks ys))) (sum_is (selected_by marks xs))
    ∙ ap (λ (n : ℕ). pos (sum_l (selected_by marks xs)) -ℤ pos n) (sum_is (selected_by marks ys))
    ∙ sym (total_of_differences marks xs ys long)

fits_small : (z : ℤ) → nat_abs z < 2 ^ 127 → FitsSigned w128 z
fits_small (pos n) h = record { sfits = h }
fits_small (negsuc n) h = record { sfits = omega arith }

abs_of_difference : (a b : ℕ) → nat_abs (pos a -ℤ pos b) ≤ a + b
abs_of_difference a b = omega (arith, ints)

-- the difference of two small sums fits 128 bits
pub fits_difference : (a b : ℕ) → a < 2 ^ 109 → b < 2 ^ 109 → FitsSigned w128 (pos a -ℤ pos b)
fits_difference a b one other = fits_small (pos a -ℤ pos b) (omega (arith, abs_of_difference a b, one, other))
