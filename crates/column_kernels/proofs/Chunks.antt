-- A column in blocks of rows.
use Rattle.std.proofs.Common.{◌≡◌, ℕ, zero, suc, ◌+◌, ◌*◌, ◌<◌, ◌≤◌, List, [], ◌∷◌, ◌++◌, length, map, take, drop}
use Rattle.std.proofs.Common.{get_or, refl, sym, ap, ◌∙◌, arith, drop-drop, length-take-le}
use Rattle.std.proofs.lemmas.List.{take_more, take-append-drop, take-map, drop-map}
use Rattle.std.proofs.lemmas.Simd.{get_or-zip2}
use Rattle.std.specs.Simd.{first_chunks}
use Rattle.std.specs.Simd.Lanes.{chunk, zip2}

-- one block of several
pub chunk_at : {X : Type 0} (n k i : ℕ) (xs : List X) → i < k → get_or (first_chunks n k xs) i [] ≡ chunk (n * i) n xs
chunk_at n zero i xs lt = absurd (omega (arith, lt))
chunk_at n (suc k) zero xs lt =
    let at : 0 ≡ n * 0 = omega arith in
    ap (λ (m : ℕ). chunk m n xs) at
chunk_at n (suc k) (suc i) xs lt =
    let at : n + n * i ≡ n * suc i = omega arith in
    chunk_at n k i (drop n xs) (omega (arith, lt)) ∙ ap (take n) (drop-drop (n * i) n xs)
    ∙ ap (λ (m : ℕ). chunk m n xs) at

pub take-zip2 : {A B C : Type 0} (f : A → B → C) (n : ℕ) (xs : List A) (ys : List B)
    → take n (zip2 f xs ys) ≡ zip2 f (take n xs) (take n ys)
take-zip2 f zero xs ys = refl
take-zip2 f (suc n) [] ys = refl
take-zip2 f (suc n) (x ∷ xs) [] = refl
take-zip2 f (suc n) (x ∷ xs) (y ∷ ys) = ap (λ l. f x y ∷ l) (take-zip2 f n xs ys)

drop_none : {A B C : Type 0} (f : A → B → C) (xs : List A) → zip2 f xs [] ≡ []
drop_none f [] = refl
drop_none f (x ∷ xs) = refl

pub drop-zip2 : {A B C : Type 0} (f : A → B → C) (n : ℕ) (xs : List A) (ys : List B)
    → drop n (zip2 f xs ys) ≡ zip2 f (drop n xs) (drop n ys)
drop-zip2 f zero xs ys = refl
drop-zip2 f (suc n) [] ys = refl
drop-zip2 f (suc n) (x ∷ xs) [] = sym (drop_none f (drop n xs))
drop-zip2 f (suc n) (x ∷ xs) (y ∷ ys) = drop-zip2 f n xs ys

pub chunk-zip2 : {A B C : Type 0} (f : A → B → C) (i n : ℕ) (xs : List A) (ys : List B)
    → chunk i n (zip2 f xs ys) ≡ zip2 f (chunk i n xs) (chunk i n ys)
chunk-zip2 f i n xs ys = ap (take n) (drop-zip2 f i xs ys) ∙ take-zip2 f n (drop i xs) (drop i ys)

pub zip2-append : {A B C : Type 0} (f : A → B → C) (xs xs' : List A) (ys ys' : List B) → length xs ≡ length ys
    → zip2 f (xs ++ xs') (ys ++ ys') ≡ zip2 f xs ys ++ zip2 f xs' ys'
zip2-append f [] xs' [] ys' long = refl
zip2-append f [] xs' (y ∷ ys) ys' long = absurd (omega (arith, long))
zip2-append f (x ∷ xs) xs' [] ys' long = absurd (omega (arith, long))
zip2-append f (x ∷ xs) xs' (y ∷ ys) ys' long = ap (λ l. f x y ∷ l) (zip2-append f xs xs' ys ys' (omega (arith, long)))

pub zip2_left : {A B C : Type 0} (f : A → B → C) (xs : List A) (ys : List B) → length (zip2 f xs ys) ≤ length xs
zip2_left f [] ys = omega arith
zip2_left f (x ∷ xs) [] = omega arith
zip2_left f (x ∷ xs) (y ∷ ys) = omega (arith, zip2_left f xs ys)

pub zip2_right : {A B C : Type 0} (f : A → B → C) (xs : List A) (ys : List B) → length (zip2 f xs ys) ≤ length ys
zip2_right f [] ys = omega arith
zip2_right f (x ∷ xs) [] = omega arith
zip2_right f (x ∷ xs) (y ∷ ys) = omega (arith, zip2_right f xs ys)

zip2_long : {A B C : Type 0} (f : A → B → C) (xs : List A) (ys : List B) (i : ℕ) → i < length xs → i < length ys
    → i < length (zip2 f xs ys)
zip2_long f [] ys i lt other = absurd (omega (arith, lt))
zip2_long f (x ∷ xs) [] i lt other = absurd (omega (arith, other))
zip2_long f (x ∷ xs) (y ∷ ys) zero lt other = omega arith
zip2_long f (x ∷ xs) (y ∷ ys) (suc i) lt other =
    omega (arith, zip2_long f xs ys i (omega (arith, lt)) (omega (arith, other)))

-- a pair more
pub next_pair : {A B C : Type 0} (f : A → B → C) (xs : List A) (ys : List B) (i : ℕ) (x : A) (y : B) → i < length xs
    → i < length ys
    → take (i + 1) (zip2 f xs ys) ≡ take i (zip2 f xs ys) ++ f (get_or xs i x) (get_or ys i y) ∷ []
next_pair f xs ys i x y lt other =
    let room : i < length (zip2 f xs ys) = zip2_long f xs ys i lt other in
    take_more (zip2 f xs ys) i (f x y) room
    ∙ ap (λ z. take i (zip2 f xs ys) ++ z ∷ []) (get_or-zip2 f xs ys i x y (f x y) lt other)

-- two columns, cut at a row
pub zip2_parts : {A B C : Type 0} (f : A → B → C) (m : ℕ) (xs : List A) (ys : List B) → m ≤ length xs → m ≤ length ys
    → zip2 f xs ys ≡ zip2 f (take m xs) (take m ys) ++ zip2 f (drop m xs) (drop m ys)
zip2_parts f m xs ys room other =
    ap (λ l. zip2 f l ys) (sym (take-append-drop m xs))
    ∙ ap (zip2 f (take m xs ++ drop m xs)) (sym (take-append-drop m ys))
    ∙ zip2-append f (take m xs) (drop m xs) (take m ys) (drop m ys)
    (length-take-le m xs room ∙ sym (length-take-le m ys other))

pub chunk-map : {A B : Type 0} (f : A → B) (i n : ℕ) (xs : List A) → chunk i n (map f xs) ≡ map f (chunk i n xs)
chunk-map f i n xs = ap (take n) (drop-map f i xs) ∙ take-map f n (drop i xs)
