-- Masks of lanes as numbers, and two masks at once.
use Rattle.std.proofs.Common.{◌≡◌, ℕ, ◌+◌, ◌-◌, ◌*◌, ◌^◌, ◌%◌, ◌<◌, ◌≤◌, Bool, true, false, ◌&&◌, cond, List, [], ◌∷◌}
use Rattle.std.proofs.Common.{length, map, replicate, refl, subst, ap, ◌∙◌, arith}
use Rattle.std.proofs.lemmas.List.{length-map}
use mir.Syntax.{Width}
use mir.Val.{bits, hbits}
use Rattle.std.specs.Int.Bits.{bit_and, and_zero_l}
use Rattle.std.specs.Simd.Lanes.{mask_l, zip2, top}
use Rattle.std.proofs.lemmas.Nat.{and_block, and_comm, and_le_l}
use Rattle.std.proofs.lemmas.Simd.{tops_compared, mask_l-mod, mask_l-lt}

low_bits : (m n : Bool) → bit_and (cond m 1 0) (cond n 1 0) ≡ cond (m && n) 1 0
low_bits true true = refl
low_bits true false = refl
low_bits false n = and_zero_l (cond n 1 0)

low_bit : (m : Bool) → cond m 1 0 < 2 ^ 1
low_bit true = omega arith
low_bit false = omega arith

pub and_masks : (ms ns : List Bool) → bit_and (mask_l ms) (mask_l ns) ≡ mask_l (zip2 (λ m n. m && n) ms ns)
and_masks [] ns = and_zero_l (mask_l ns)
and_masks (m ∷ ms) [] = and_comm (mask_l (m ∷ ms)) 0 ∙ and_zero_l (mask_l (m ∷ ms))
and_masks (m ∷ ms) (n ∷ ns) =
    let left : cond m 1 0 + 2 * mask_l ms ≡ mask_l ms * 2 ^ 1 + cond m 1 0 = omega arith in
    let right : cond n 1 0 + 2 * mask_l ns ≡ mask_l ns * 2 ^ 1 + cond n 1 0 = omega arith in
    let both : bit_and (cond m 1 0 + 2 * mask_l ms) (cond n 1 0 + 2 * mask_l ns)
    ≡ bit_and (mask_l ms) (mask_l ns) * 2 ^ 1 + bit_and (cond m 1 0) (cond n 1 0)
    = ap (λ (a : ℕ). bit_and a (cond n 1 0 + 2 * mask_l ns)) left ∙ ap (bit_and (mask_l ms * 2 ^ 1 + cond m 1 0)) right
    ∙ and_block 1 (mask_l ms) (mask_l ns) (cond m 1 0) (cond n 1 0) (low_bit m) (low_bit n) in
    omega (arith, both, and_masks ms ns, low_bits m n)

pub zip2_maps : {A B : Type 0} (f : A → Bool) (g : B → Bool) (xs : List A) (ys : List B)
    → zip2 (λ m n. m && n) (map f xs) (map g ys) ≡ zip2 (λ x y. f x && g y) xs ys
zip2_maps f g [] ys = refl
zip2_maps f g (x ∷ xs) [] = refl
zip2_maps f g (x ∷ xs) (y ∷ ys) = ap (λ l. (f x && g y) ∷ l) (zip2_maps f g xs ys)

pub zip2_self : {A B : Type 0} (h : A → A → B) (xs : List A) → zip2 h xs xs ≡ map (λ x. h x x) xs
zip2_self h [] = refl
zip2_self h (x ∷ xs) = ap (λ l. h x x ∷ l) (zip2_self h xs)

zip2_splat : {A B : Type 0} (h : A → A → B) (y : A) (xs : List A) → zip2 h (replicate (length xs) y) xs ≡ map (h y) xs
zip2_splat h y [] = refl
zip2_splat h y (x ∷ xs) = ap (λ l. h y x ∷ l) (zip2_splat h y xs)

-- `to_bitmask` of a comparison with a splat on the left
pub bitmask_splat_left : (w : Width) (t : ℕ → ℕ → Bool) (xs : List ℕ) (n y : ℕ) → length xs ≡ n → n ≤ 64
    → mask_l (map (top (hbits w)) (zip2 (λ a b. cond (t a b) (2 ^ bits w - 1) 0) (replicate n y) xs)) % 2 ^ 64
    ≡ mask_l (map (t y) xs)
bitmask_splat_left w t xs n y long few =
    let lanes : ℕ → List ℕ = λ m. zip2 (λ a b. cond (t a b) (2 ^ bits w - 1) 0) (replicate m y) xs in
    let whole : mask_l (map (top (hbits w)) (lanes (length xs))) ≡ mask_l (map (t y) xs)
    = ap mask_l (tops_compared w t (replicate (length xs) y) xs ∙ zip2_splat t y xs) in
    let room : length (map (t y) xs) ≤ 64 = omega (arith, length-map xs (t y), long, few) in
    subst (λ (m : ℕ). mask_l (map (top (hbits w)) (lanes m)) % 2 ^ 64 ≡ mask_l (map (t y) xs)) long
    (ap (λ (a : ℕ). a % 2 ^ 64) whole ∙ mask_l-mod (map (t y) xs) 64 room)

pub range_bits : (f g : ℕ → Bool) (xs : List ℕ) (a b : ℕ) → a ≡ mask_l (map f xs) → b ≡ mask_l (map g xs)
    → bit_and a b ≡ mask_l (map (λ x. f x && g x) xs)
range_bits f g xs a b one two =
    ap (λ (n : ℕ). bit_and n b) one ∙ ap (bit_and (mask_l (map f xs))) two ∙ and_masks (map f xs) (map g xs)
    ∙ ap mask_l (zip2_maps f g xs xs ∙ zip2_self (λ x y. f x && g y) xs)

pub row_bits : (f g : ℕ → Bool) (xs ys : List ℕ) (a b : ℕ) → a ≡ mask_l (map f xs) → b ≡ mask_l (map g ys)
    → bit_and a b ≡ mask_l (zip2 (λ x y. f x && g y) xs ys)
row_bits f g xs ys a b one two =
    ap (λ (n : ℕ). bit_and n b) one ∙ ap (bit_and (mask_l (map f xs))) two ∙ and_masks (map f xs) (map g ys)
    ∙ ap mask_l (zip2_maps f g xs ys)

pub few_bits : (f : ℕ → Bool) (xs : List ℕ) (a b n : ℕ) → a ≡ mask_l (map f xs) → length xs ≡ n → bit_and a b < 2 ^ n
few_bits f xs a b n one long =
    let below : mask_l (map f xs) < 2 ^ n =
    subst (λ (m : ℕ). mask_l (map f xs) < 2 ^ m) (length-map xs f ∙ long) (mask_l-lt (map f xs)) in
    omega (arith, and_le_l a b, one, below)
