-- Lemmas of `lanes`, by subject.
use Rattle.std.proofs.Common.{◌≡◌, ℕ, ◌*◌, ◌/◌, ◌^◌, ◌<◌, ◌≤◌, List, [], ◌∷◌, length, map, get_or, replicate, bit_and}
use Rattle.std.proofs.Common.{Fits, w64, refl, sym, ap, ◌∙◌, arith, zero, suc, ◌-◌, ◌==◌, Bool, not, cond}
use Rattle.std.proofs.Math.Nat.{mul-le-mul, div-div-eq-div-mul}
use Rattle.std.proofs.lemmas.Nat.{and_mask}
use Rattle.std.proofs.lemmas.Simd.{Each1-weaker, Each1-from_get_or, Each1-zip2, Each2-of, sum_bound, length-zip2}
use Rattle.std.proofs.lemmas.Simd.{zip2_splat, tops_compared, zip2_splat_left, map-map}
use Rattle.std.specs.Simd.Lanes.{Each1, Each2, sum_l, zip2, top}
use Rattle.column_kernels.specs.Sums.{products, low, high}
use Rattle.std.proofs.lemmas.Nat.Bits.{and_pow, bit_at-lt}
use Rattle.std.specs.Int.{bit_at}
use Rattle.column_kernels.specs.Masks.{bits_of}

-- ==== Halves of lanes, and their products with bytes, stay small.

pub low_small : (xs : List ℕ) → Each1 (λ half. half < 4294967296) (map low xs)
low_small [] = tt
low_small (x ∷ xs) = (omega arith, low_small xs)

pub high_small : (xs : List ℕ) → Each1 (Fits w64) xs → Each1 (λ half. half < 4294967296) (map high xs)
high_small [] fit = tt
high_small (x ∷ xs) fit = (omega (arith, fit.0.fits), high_small xs fit.1)

and_low : (xs : List ℕ) → map (λ (x : ℕ). bit_and x 4294967295) xs ≡ map low xs
and_low [] = refl
and_low (x ∷ xs) = ap (λ (n : ℕ). n ∷ map (λ (x : ℕ). bit_and x 4294967295) xs) (and_mask x 32)
    ∙ ap (λ (l : List ℕ). low x ∷ l) (and_low xs)

-- the low halves by a mask of each lane
pub masked_low : (xs : List ℕ) → length xs ≡ 32 → zip2 bit_and xs (replicate 32 4294967295) ≡ map low xs
masked_low xs long = zip2_splat bit_and xs 32 4294967295 long ∙ and_low xs

-- the high halves by a shift of each lane
pub shifted_high : (xs : List ℕ) → length xs ≡ 32 → zip2 (λ (x k : ℕ). x / 2 ^ k) xs (replicate 32 32) ≡ map high xs
shifted_high xs long = zip2_splat (λ (x k : ℕ). x / 2 ^ k) xs 32 32 long

pub halves_sum : (xs : List ℕ) → length xs ≡ 32 → Each1 (λ half. half < 4294967296) xs → sum_l xs < 2 ^ 64
halves_sum xs long small =
    let below : Each1 (λ a. a ≤ 4294967296) xs =
    Each1-weaker (λ a. a < 4294967296) (λ a. a ≤ 4294967296) (λ a lt. omega (arith, lt)) xs small in
    omega (arith, sum_bound 4294967296 xs below, long)

pub bytes_sum : (xs : List ℕ) → length xs ≡ 32 → Each1 (λ byte. byte < 256) xs → sum_l xs < 2 ^ 64
bytes_sum xs long small =
    let below : Each1 (λ a. a ≤ 256) xs =
    Each1-weaker (λ a. a < 256) (λ a. a ≤ 256) (λ a lt. omega (arith, lt)) xs small in
    omega (arith, sum_bound 256 xs below, long)

small_product : (half byte : ℕ) → half < 4294967296 → byte < 256 → half * byte ≤ 1099511627776
small_product half byte one other =
    let left : half ≤ 4294967296 = omega (arith, one) in
    let right : byte ≤ 256 = omega (arith, other) in
    mul-le-mul left right

pub products_fit : (halves bytes : List ℕ) → Each1 (λ half. half < 4294967296) halves → Each1 (λ byte. byte < 256) bytes
    → Each2 (λ a b. Fits w64 (a * b)) halves bytes
products_fit halves bytes ones others =
    Each2-of (λ half. half < 4294967296) (λ byte. byte < 256) (λ a b. Fits w64 (a * b))
    (λ a b one other. record { fits = omega (arith, small_product a b one other) }) halves bytes ones others

pub products_sum : (halves bytes : List ℕ) → length halves ≡ 32 → length bytes ≡ 32
    → Each1 (λ half. half < 4294967296) halves → Each1 (λ byte. byte < 256) bytes
    → sum_l (products halves bytes) < 2 ^ 64
products_sum halves bytes long other_long ones others =
    let each : Each2 (λ (a b : ℕ). a * b ≤ 1099511627776) halves bytes
    = Each2-of (λ half. half < 4294967296) (λ byte. byte < 256) (λ (a b : ℕ). a * b ≤ 1099511627776)
    (λ a b one other. small_product a b one other) halves bytes ones others in
    let below : Each1 (λ a. a ≤ 1099511627776) (products halves bytes)
    = Each1-zip2 (λ (a b : ℕ). a * b) (λ a. a ≤ 1099511627776) halves bytes each in
    let many : length (products halves bytes) ≡ 32 =
    length-zip2 (λ (a b : ℕ). a * b) halves bytes (long ∙ sym other_long) ∙ long in
    omega (arith, sum_bound 1099511627776 (products halves bytes) below, many)

pub bytes_small : (bytes : List ℕ) → ((i : ℕ) → get_or bytes i 0 < 256) → Each1 (λ byte. byte < 256) bytes
bytes_small bytes fit = Each1-from_get_or (λ byte. byte < 256) bytes 0 (λ i lt. fit i)

-- ==== The lanes whose bit is set in a word.

-- powers of two, the first of them by its exponent
abbrev pub powers : ℕ → ℕ → List ℕ
powers from zero = []
powers from (suc count) = 2 ^ from ∷ powers (suc from) count

set_or_not : (bit power : ℕ) → bit < 2 → 0 < power → not (bit * power == 0) ≡ (bit == 1)
set_or_not zero power lt positive = grind arith
set_or_not (suc zero) power lt positive = grind (arith, positive)
set_or_not (suc (suc bit)) power lt positive = absurd (omega (arith, lt))

power_positive : (k : ℕ) → 0 < 2 ^ k
power_positive zero = omega arith
power_positive (suc k) = omega (arith, power_positive k)

-- the test of a bit by its power
bit_test : (word k : ℕ) → not (bit_and word (2 ^ k) == 0) ≡ (bit_at word k == 1)
bit_test word k = ap (λ (n : ℕ). not (n == 0)) (and_pow word k)
    ∙ set_or_not (bit_at word k) (2 ^ k) (bit_at-lt word k) (power_positive k)

bits_from : (word from count : ℕ) → map (λ (power : ℕ). not (bit_and word power == 0)) (powers from count)
    ≡ bits_of count (word / 2 ^ from)
unfolding bits_of
bits_from word from zero = refl
bits_from word from (suc count) =
    let more : 2 ^ from * 2 ≡ 2 ^ suc from = omega arith in
    let next : word / 2 ^ suc from ≡ word / 2 ^ from / 2
    = ap (λ (n : ℕ). word / n) (sym more) ∙ sym (div-div-eq-div-mul word (2 ^ from) 2) in
    ap (λ (b : Bool). b ∷ map (λ (power : ℕ). not (bit_and word power == 0)) (powers (suc from) count))
    (bit_test word from)
    ∙ ap (λ (l : List Bool). (bit_at word from == 1) ∷ l) (bits_from word (suc from) count ∙ ap (bits_of count) next)

-- what `select` reads of the powers under a word
pub chosen_lanes : (word : ℕ)
    → map (top 63)
    (zip2 (λ a b. cond (not (a == b)) (2 ^ 64 - 1) 0) (zip2 bit_and (replicate 32 word) (powers 0 32))
    (replicate 32 0)) ≡ bits_of 32 word
chosen_lanes word =
    let tests : List ℕ = zip2 bit_and (replicate 32 word) (powers 0 32) in
    tops_compared w64 (λ (a b : ℕ). not (a == b)) tests (replicate 32 0)
    ∙ zip2_splat (λ (a b : ℕ). not (a == b)) tests 32 0 refl
    ∙ ap (map (λ (a : ℕ). not (a == 0))) (zip2_splat_left bit_and word 32 (powers 0 32) refl)
    ∙ map-map (λ (a : ℕ). not (a == 0)) (bit_and word) (powers 0 32)
    ∙ bits_from word 0 32 ∙ ap (bits_of 32) (omega arith)
