-- The least and the greatest that are kept of selected numbers.
use Rattle.std.proofs.Common.{◌≡◌, ℕ, zero, suc, ◌+◌, ◌*◌, ◌^◌, ◌<◌, ◌≤◌, ◌==◌, ◌<ℤ◌, ℤ, pos, negsuc, Bool, true, false}
use Rattle.std.proofs.Common.{cond, List, [], ◌∷◌, ◌++◌, length, length-append, take, drop, get_or, refl, sym, ap, ◌∙◌}
use Rattle.std.proofs.Common.{arith, length-take-le, append-nil, append_assoc, FitsSigned, Some, None}
use Rattle.std.proofs.Math.Seq.{take-add}
use Rattle.std.proofs.lemmas.Int.{ints, fold-int_min_bounds, fold-int_max_bounds}
use Rattle.std.proofs.lemmas.List.{take_more, take-append-drop, length-drop}
use Rattle.std.proofs.lemmas.List.Sums.{fold-append}
use Rattle.std.specs.Int.{bit_at, int_min, int_max, w128}
use Rattle.std.specs.List.{flat_map, fold}
use Rattle.std.specs.Simd.Lanes.{chunk}
use Rattle.column_kernels.specs.declared.extremes.Extremes.{Extremes}
use Rattle.column_kernels.specs.Extremes.{extremes_of, kept_extremes, kept_with}
use Rattle.column_kernels.specs.Masks.{bits_of, selected_by}
use Rattle.column_kernels.proofs.Bits.{length-bits_of, bits_of-next}
use Rattle.column_kernels.proofs.Blocks.{length_words, next_word}
use Rattle.column_kernels.proofs.Selecting.{selected-append}

min_self : (x : ℤ) → int_min x x ≡ x
min_self x = grind (arith, ints)

max_self : (x : ℤ) → int_max x x ≡ x
max_self x = grind (arith, ints)

-- a number that is not selected changes nothing
pub with_if_is : (kept : Extremes) (b : Bool) (number : ℤ)
    → record {
      least = int_min kept.least (cond b number kept.least);
      greatest =
          int_max kept.greatest (cond b number kept.greatest);
    } ≡ cond b (kept_with kept number) kept
with_if_is kept true number = refl
with_if_is kept false number = λ i. record { least = min_self kept.least i; greatest = max_self kept.greatest i }

-- a number more
kept_next : (numbers : List ℤ) (number : ℤ) → FitsSigned w128 number
    → kept_with (kept_extremes numbers) number ≡ kept_extremes (numbers ++ number ∷ [])
kept_next [] (pos n) fits =
    let below : n < 2 ^ 127 = fits.sfits in
    let low : int_min (pos 170141183460469231731687303715884105727) (pos n) ≡ pos n = grind (arith, ints, below) in
    let high : int_max (negsuc 170141183460469231731687303715884105727) (pos n) ≡ pos n = grind (arith, ints) in
    λ i. record { least = low i; greatest = high i }
kept_next [] (negsuc n) fits =
    let below : n < 2 ^ 127 = fits.sfits in
    let low : int_min (pos 170141183460469231731687303715884105727) (negsuc n) ≡ negsuc n = grind (arith, ints) in
    let high : int_max (negsuc 170141183460469231731687303715884105727) (negsuc n) ≡ negsuc n =
    grind (arith, ints, below) in
    λ i. record { least = low i; greatest = high i }
kept_next (first ∷ numbers) number fits =
    λ i. record {
      least = sym (fold-append int_min first numbers (number ∷ [])) i;
      greatest = sym (fold-append int_max first numbers (number ∷ [])) i;
    }

-- a row more
kept_next_if : (numbers : List ℤ) (b : Bool) (number : ℤ) → FitsSigned w128 number
    → cond b (kept_with (kept_extremes numbers) number) (kept_extremes numbers)
    ≡ kept_extremes (numbers ++ selected_by (b ∷ []) (number ∷ []))
kept_next_if numbers true number fits = kept_next numbers number fits
kept_next_if numbers false number fits = ap kept_extremes (sym (append-nil numbers))

-- the rows of a word, up to the next
selected_next : (word i : ℕ) (numbers : List ℤ) → i < length numbers
    → selected_by (bits_of (i + 1) word) (take (i + 1) numbers)
    ≡ selected_by (bits_of i word) (take i numbers)
    ++ selected_by ((bit_at word i == 1) ∷ []) (get_or numbers i (pos 0) ∷ [])
selected_next word i numbers lt =
    let bit : Bool = bit_at word i == 1 in
    let x : ℤ = get_or numbers i (pos 0) in
    let rows : length (take i numbers) ≡ i = length-take-le i numbers (omega (arith, lt)) in
    let long : length (bits_of i word) ≡ length (take i numbers) = length-bits_of i word ∙ sym rows in
    ap (λ (l : List Bool). selected_by l (take (i + 1) numbers)) (bits_of-next i word)
    ∙ ap (λ (l : List ℤ). selected_by (bits_of i word ++ bit ∷ []) l) (take_more numbers i (pos 0) lt)
    ∙ selected-append (bits_of i word) (bit ∷ []) (take i numbers) (x ∷ []) long

pub kept_row : (before : List ℤ) (word i : ℕ) (numbers : List ℤ) (kept : Extremes) (number : ℤ) → i < length numbers
    → FitsSigned w128 number → number ≡ get_or numbers i (pos 0)
    → kept ≡ kept_extremes (before ++ selected_by (bits_of i word) (take i numbers))
    → cond (bit_at word i == 1) (kept_with kept number) kept
    ≡ kept_extremes (before ++ selected_by (bits_of (i + 1) word) (take (i + 1) numbers))
kept_row before word i numbers kept number lt fits number_is kept_is =
    let bit : Bool = bit_at word i == 1 in
    let so_far : List ℤ = selected_by (bits_of i word) (take i numbers) in
    ap (λ (k : Extremes). cond bit (kept_with k number) k) kept_is ∙ kept_next_if (before ++ so_far) bit number fits
    ∙ ap kept_extremes (append_assoc before so_far (selected_by (bit ∷ []) (number ∷ []))
    ∙ ap (λ (l : List ℤ). before ++ l) (ap (λ (n : ℤ). so_far ++ selected_by (bit ∷ []) (n ∷ [])) number_is
    ∙ sym (selected_next word i numbers lt)))

-- a block more
pub kept_block : (words : List ℕ) (i : ℕ) (numbers : List ℤ) → i < length words → 32 * length words ≤ length numbers
    → selected_by (flat_map (bits_of 32) (take i words)) (take (32 * i) numbers)
    ++ selected_by (bits_of 32 (get_or words i 0)) (chunk (32 * i) 32 numbers)
    ≡ selected_by (flat_map (bits_of 32) (take (i + 1) words)) (take (32 * (i + 1)) numbers)
kept_block words i numbers lt room =
    let before : List Bool = flat_map (bits_of 32) (take i words) in
    let next : List Bool = bits_of 32 (get_or words i 0) in
    let step : 32 * (i + 1) ≡ 32 * i + 32 = omega arith in
    let count : length (take i words) ≡ i = length-take-le i words (omega (arith, lt)) in
    let rows : length (take (32 * i) numbers) ≡ 32 * i = length-take-le (32 * i) numbers (omega (arith, lt, room)) in
    let long : length before ≡ length (take (32 * i) numbers) =
    omega (arith, length_words (take i words), count, rows) in
    sym (ap (λ (l : List Bool). selected_by l (take (32 * (i + 1)) numbers)) (next_word words i lt)
    ∙ ap (λ (l : List ℤ). selected_by (before ++ next) l)
    (ap (λ (m : ℕ). take m numbers) step ∙ take-add (32 * i) 32 numbers)
    ∙ selected-append before next (take (32 * i) numbers) (chunk (32 * i) 32 numbers) long)

take_whole : (n : ℕ) (numbers : List ℤ) → length numbers ≡ n → take n numbers ≡ numbers
take_whole zero [] long = refl
take_whole zero (x ∷ numbers) long = absurd (omega (arith, long))
take_whole (suc n) [] long = refl
take_whole (suc n) (x ∷ numbers) long = ap (λ (l : List ℤ). x ∷ l) (take_whole n numbers (omega (arith, long)))

-- the blocks and what is after them
pub kept_whole : (words : List ℕ) (rest n : ℕ) (numbers : List ℤ) → length numbers ≡ 32 * length words + n
    → selected_by (flat_map (bits_of 32) words) (take (32 * length words) numbers)
    ++ selected_by (bits_of n rest) (take n (drop (32 * length words) numbers))
    ≡ selected_by (flat_map (bits_of 32) words ++ bits_of n rest) numbers
kept_whole words rest n numbers room =
    let m : ℕ = 32 * length words in
    let blocks : List Bool = flat_map (bits_of 32) words in
    let rows : length (take m numbers) ≡ m = length-take-le m numbers (omega (arith, room)) in
    let long : length blocks ≡ length (take m numbers) = length_words words ∙ sym rows in
    let after : take n (drop m numbers) ≡ drop m numbers =
    take_whole n (drop m numbers) (omega (arith, room, length-drop m numbers)) in
    ap (λ (l : List ℤ). selected_by blocks (take m numbers) ++ selected_by (bits_of n rest) l) after
    ∙ sym (selected-append blocks (bits_of n rest) (take m numbers) (drop m numbers) long)
    ∙ ap (selected_by (blocks ++ bits_of n rest)) (take-append-drop m numbers)

-- the ends are the wrong way round only where there is no number
pub none_found : (numbers : List ℤ) (kept : Extremes) → kept.greatest <ℤ kept.least → kept ≡ kept_extremes numbers
    → None ≡ extremes_of numbers
none_found [] kept above is = refl
none_found (x ∷ numbers) kept above is =
    let low = (fold-int_min_bounds x numbers (fold int_min x numbers) refl).0 in
    let high = (fold-int_max_bounds x numbers (fold int_max x numbers) refl).0 in
    let greatest_is : kept.greatest ≡ fold int_max x numbers = ap (λ (k : Extremes). k.greatest) is in
    let least_is : kept.least ≡ fold int_min x numbers = ap (λ (k : Extremes). k.least) is in
    absurd (omega (arith, ints, low, high, above, greatest_is, least_is))

pub some_found : (numbers : List ℤ) (kept : Extremes) → (kept.greatest <ℤ kept.least → ⊥) → kept ≡ kept_extremes numbers
    → Some (kept.least, kept.greatest) ≡ extremes_of numbers
some_found [] kept right is =
    let greatest_is : kept.greatest ≡ negsuc 170141183460469231731687303715884105727 =
    ap (λ (k : Extremes). k.greatest) is in
    let least_is : kept.least ≡ pos 170141183460469231731687303715884105727 = ap (λ (k : Extremes). k.least) is in
    absurd (right (omega (arith, ints, greatest_is, least_is)))
some_found (x ∷ numbers) kept right is = ap (λ (k : Extremes). Some (k.least, k.greatest)) is
