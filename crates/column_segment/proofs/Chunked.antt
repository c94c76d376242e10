-- Numbers of one width, one after the other, cut into chunks and read back. Our own.
use Rattle.std.proofs.Common.{◌≡◌, ℕ, zero, suc, ◌+◌, ◌*◌, ◌^◌, ◌<◌, ◌≤◌, List, [], ◌∷◌, ◌++◌, length, map, take, drop}
use Rattle.std.proofs.Common.{slice_index, refl, sym, ap, subst, ◌∙◌, arith, append_assoc, length-append, length-drop}
use Rattle.std.proofs.Common.{◌%◌}
use Rattle.std.specs.Int.{from_le_bytes, w16, w32, w64}
use Rattle.std.specs.List.{AllByRecursion, flat_map}
use Rattle.std.specs.Simd.{first_chunks}
use Rattle.std.proofs.lemmas.List.{drop_at, get_or-drop, length-map, length-take-le, take-append-drop, take_at}
use Rattle.std.proofs.lemmas.Nat.{from_le_bytes-to_le_bytes_2, from_le_bytes-to_le_bytes_4, from_le_bytes-to_le_bytes_8}
use Rattle.std.proofs.lemmas.Nat.{le_bytes_2, le_bytes_4}
use Rattle.std.proofs.lemmas.Nat.{le_bytes_8}
use Rattle.wire.specs.Spelling.{spelling}

-- ---- bytes

abbrev pub AreBytes : List ℕ → Type 0
AreBytes xs = (k : ℕ) → slice_index xs k < 256

pub AreBytes-drop : (n : ℕ) (xs : List ℕ) → AreBytes xs → AreBytes (drop n xs)
AreBytes-drop n xs are = λ k. subst (λ (m : ℕ). m < 256) (sym (get_or-drop n xs k 0)) (are (n + k))

bytes-cons : (x : ℕ) (xs : List ℕ) → x < 256 → AreBytes xs → (k : ℕ) → slice_index (x ∷ xs) k < 256
bytes-cons x xs lt are zero = lt
bytes-cons x xs lt are (suc k) = are k

pub AreBytes-take : (n : ℕ) (xs : List ℕ) → AreBytes xs → AreBytes (take n xs)
AreBytes-take zero xs are = λ k. omega arith
AreBytes-take (suc n) [] are = are
AreBytes-take (suc n) (x ∷ xs) are = bytes-cons x (take n xs) (are 0) (AreBytes-take n xs (λ k. are (suc k)))

-- ---- chunks

pub length-chunks : {X : Type 0} (width n : ℕ) (xs : List X) → length (first_chunks width n xs) ≡ n
length-chunks width zero xs = refl
length-chunks width (suc n) xs = omega (arith, length-chunks width n (drop width xs))

pub length-read : (read : List ℕ → ℕ) (width n : ℕ) (xs : List ℕ) → length (map read (first_chunks width n xs)) ≡ n
length-read read width n xs = length-map (first_chunks width n xs) read ∙ length-chunks width n xs

none_left : (xs : List ℕ) → length xs ≡ 0 → [] ≡ xs
none_left [] none = refl
none_left (x ∷ xs) none = absurd (omega (arith, none))

-- the numbers of chunks have the chunks as their spelling
module _ (width : ℕ) (read : List ℕ → ℕ) (back : (chunk : List ℕ) → length chunk ≡ width → AreBytes chunk
    → spelling width (read chunk) ≡ chunk) where
  pub chunks_back : (n : ℕ) (xs : List ℕ) → length xs ≡ width * n → AreBytes xs
      → flat_map (spelling width) (map read (first_chunks width n xs)) ≡ xs
  chunks_back zero xs many are = none_left xs (omega (arith, many))
  chunks_back (suc n) xs many are =
      let more : width * suc n ≡ width + width * n = omega arith in
      let front : spelling width (read (take width xs)) ≡ take width xs =
      back (take width xs) (length-take-le width xs (omega (arith, many, more))) (AreBytes-take width xs are) in
      let rest : flat_map (spelling width) (map read (first_chunks width n (drop width xs))) ≡ drop width xs =
      chunks_back n (drop width xs) (omega (arith, many, more, length-drop width xs)) (AreBytes-drop width xs are) in
      (λ i. front i ++ rest i) ∙ take-append-drop width xs

-- what holds of the number of each chunk
module _ (width : ℕ) (read : List ℕ → ℕ) (limit : ℕ) (below : (chunk : List ℕ) → AreBytes chunk → read chunk < limit)
  where
    pub read_below : (n : ℕ) (xs : List ℕ) → AreBytes xs
        → AllByRecursion (λ x. x < limit) (map read (first_chunks width n xs))
    read_below zero xs are = tt
    read_below (suc n) xs are =
        (below (take width xs) (AreBytes-take width xs are), read_below n (drop width xs) (AreBytes-drop width xs are))

-- the chunks of what is as long for each item
module _ {X : Type 0} (width : ℕ) (part : X → List ℕ) (long : (x : X) → length (part x) ≡ width) where
  pub length-parts : (xs : List X) → length (flat_map part xs) ≡ width * length xs
  length-parts [] = omega arith
  length-parts (x ∷ xs) =
      let more : width * suc (length xs) ≡ width + width * length xs = omega arith in
      omega (arith, length-append (part x) (flat_map part xs), long x, length-parts xs, more)

  pub chunks_of : (n : ℕ) (xs : List X) (rest : List ℕ) → length xs ≡ n
      → first_chunks width n (flat_map part xs ++ rest) ≡ map part xs
  chunks_of zero [] rest many = refl
  chunks_of zero (x ∷ xs) rest many = absurd (omega (arith, many))
  chunks_of (suc n) [] rest many = absurd (omega (arith, many))
  chunks_of (suc n) (x ∷ xs) rest many =
      let split : (part x ++ flat_map part xs) ++ rest ≡ part x ++ (flat_map part xs ++ rest) =
      append_assoc (part x) (flat_map part xs) rest in
      let head : take width ((part x ++ flat_map part xs) ++ rest) ≡ part x = ap (take width) split
      ∙ take_at (part x) (flat_map part xs ++ rest) width (long x) in
      let left : drop width ((part x ++ flat_map part xs) ++ rest) ≡ flat_map part xs ++ rest = ap (drop width) split
      ∙ drop_at (part x) (flat_map part xs ++ rest) width (long x) in
      let tail : first_chunks width n (drop width ((part x ++ flat_map part xs) ++ rest)) ≡ map part xs =
      ap (first_chunks width n) left ∙ chunks_of n xs rest (omega (arith, many)) in
      λ i. head i ∷ tail i

-- ---- the three widths

pub back_2 : (chunk : List ℕ) → length chunk ≡ 2 → AreBytes chunk → spelling 2 (from_le_bytes w16 chunk) ≡ chunk
unfolding spelling
back_2 chunk many are = le_bytes_2 chunk (from_le_bytes w16 chunk) many are refl

pub back_4 : (chunk : List ℕ) → length chunk ≡ 4 → AreBytes chunk → spelling 4 (from_le_bytes w32 chunk) ≡ chunk
unfolding spelling
back_4 chunk many are = le_bytes_4 chunk (from_le_bytes w32 chunk) many are refl

pub back_8 : (chunk : List ℕ) → length chunk ≡ 8 → AreBytes chunk → spelling 8 (from_le_bytes w64 chunk) ≡ chunk
unfolding spelling
back_8 chunk many are = le_bytes_8 chunk (from_le_bytes w64 chunk) many are refl

pub below_4 : (chunk : List ℕ) → AreBytes chunk → from_le_bytes w32 chunk < 2 ^ 32
below_4 chunk are = omega (arith, are 0, are 1, are 2, are 3)

pub below_8 : (chunk : List ℕ) → AreBytes chunk → from_le_bytes w64 chunk < 2 ^ 64
below_8 chunk are = omega (arith, are 0, are 1, are 2, are 3, are 4, are 5, are 6, are 7)

pub read_2 : (x : ℕ) → x < 2 ^ 16 → from_le_bytes w16 (spelling 2 x) ≡ x
unfolding spelling
read_2 x fits = from_le_bytes-to_le_bytes_2 x fits

pub read_4 : (x : ℕ) → x < 2 ^ 32 → from_le_bytes w32 (spelling 4 x) ≡ x
unfolding spelling
read_4 x fits = from_le_bytes-to_le_bytes_4 x fits

pub read_8 : (x : ℕ) → x < 2 ^ 64 → from_le_bytes w64 (spelling 8 x) ≡ x
unfolding spelling
read_8 x fits = from_le_bytes-to_le_bytes_8 x fits

-- a byte is its own spelling
pub bytes_back : (xs : List ℕ) → AreBytes xs → flat_map (spelling 1) xs ≡ xs
unfolding spelling
bytes_back [] are = refl
bytes_back (x ∷ xs) are =
    let lt : x < 256 = are 0 in
    let low : x % 256 ≡ x = omega (arith, lt) in
    let rest : flat_map (spelling 1) xs ≡ xs = bytes_back xs (λ k. are (suc k)) in
    λ i. low i ∷ rest i

pub bytes_below : (xs : List ℕ) → AreBytes xs → AllByRecursion (λ x. x < 2 ^ 8) xs
bytes_below [] are = tt
bytes_below (x ∷ xs) are = (are 0, bytes_below xs (λ k. are (suc k)))

-- the columns of so many bytes a row have room in those of 63
pub within_rows : (place width rows : ℕ) → place + width ≤ 63 → place * rows + width * rows ≤ 63 * rows
within_rows place width zero le = omega arith
within_rows place width (suc rows) le =
    let first : place * suc rows ≡ place + place * rows = omega arith in
    let second : width * suc rows ≡ width + width * rows = omega arith in
    omega (arith, within_rows place width rows le, first, second, le)
