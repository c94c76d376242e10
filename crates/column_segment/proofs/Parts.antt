-- A part of the rows, by their places. Our own.
use Rattle.std.proofs.Common.{◌≡◌, ℕ, zero, suc, ◌+◌, ◌-◌, ◌*◌, ◌/◌, ◌<◌, min, Some, None, slice_get, List, [], ◌∷◌}
use Rattle.std.proofs.Common.{length, map, take, drop, get_or, refl, sym, ap, ◌∙◌, arith}
use Rattle.std.specs.Int.{from_le_bytes, w16}
use Rattle.std.specs.List.{range_with_len}
use Rattle.std.specs.Simd.{first_chunks}
use Rattle.std.proofs.lemmas.Option.{slice_get-get_or}
use Rattle.column_segment.specs.Decoded.{codes_in}
use Rattle.column_segment.proofs.Chunked.{length-chunks, length-read}

module _ {X : Type 0} (f : ℕ → X) where
  drop-places : (a n k : ℕ) → drop k (map f (range_with_len a n)) ≡ map f (range_with_len (a + k) (n - k))
  drop-places a n zero =
      let start : a ≡ a + 0 = omega arith in
      let many : n ≡ n - 0 = omega arith in
      λ i. map f (range_with_len (start i) (many i))
  drop-places a zero (suc k) = let none : 0 ≡ 0 - suc k = omega arith in
      ap (λ (m : ℕ). map f (range_with_len (a + suc k) m)) none
  drop-places a (suc n) (suc k) =
      let start : a + 1 + k ≡ a + suc k = omega arith in
      let many : n - k ≡ suc n - suc k = omega arith in
      drop-places (a + 1) n k ∙ (λ i. map f (range_with_len (start i) (many i)))

  take-places : (a n k : ℕ) → take k (map f (range_with_len a n)) ≡ map f (range_with_len a (min k n))
  take-places a n zero = let none : 0 ≡ min 0 n = omega arith in ap (λ (m : ℕ). map f (range_with_len a m)) none
  take-places a zero (suc k) = let none : 0 ≡ min (suc k) 0 = omega arith in
      ap (λ (m : ℕ). map f (range_with_len a m)) none
  take-places a (suc n) (suc k) =
      let many : suc (min k n) ≡ min (suc k) (suc n) = omega arith in
      ap (λ (l : List X). f a ∷ l) (take-places (a + 1) n k) ∙ ap (λ (m : ℕ). map f (range_with_len a m)) many

  -- so many from a place on, or as many as there are
  pub places : (n from most count : ℕ) → count ≡ min most (n - from)
      → map f (range_with_len from count) ≡ take most (drop from (map f (range_with_len 0 n)))
  places n from most count is =
      let start : 0 + from ≡ from = omega arith in
      ap (λ (m : ℕ). map f (range_with_len from m)) is ∙ sym (take-places from (n - from) most)
      ∙ ap (λ (a : ℕ). take most (map f (range_with_len a (n - from)))) (sym start)
      ∙ ap (take most) (sym (drop-places 0 n from))

-- what is made of an item of a list
pub at-map : {X Y : Type 0} (f : X → Y) (xs : List X) (i : ℕ) (d : X) (e : Y) → i < length xs
    → get_or (map f xs) i e ≡ f (get_or xs i d)
at-map f [] i d e lt = absurd (omega (arith, lt))
at-map f (x ∷ xs) zero d e lt = refl
at-map f (x ∷ xs) (suc i) d e lt = at-map f xs i d e (omega (arith, lt))

-- ---- the code of a row, and its text

pub length_codes : (bytes : List ℕ) (rows at : ℕ) → length (codes_in bytes rows at) ≡ rows
length_codes bytes rows at = length-read (from_le_bytes w16) 2 rows (take (2 * rows) (drop at bytes))

pub code_at : (bytes : List ℕ) (rows at row code : ℕ) (after part : List ℕ) (chunks : List (List ℕ)) → row < rows
    → after ≡ drop at bytes → part ≡ take (2 * rows) after
    → length part ≡ 2 * rows → chunks ≡ first_chunks 2 (length part / 2) part
    → code ≡ from_le_bytes w16 (get_or chunks row []) → code ≡ get_or (codes_in bytes rows at) row 0
code_at bytes rows at row code after part chunks lt after_is part_is long chunks_are is =
    let half : length part / 2 ≡ rows = omega (arith, long) in
    let cut : chunks ≡ first_chunks 2 rows (take (2 * rows) (drop at bytes)) =
    chunks_are ∙ ap (λ (m : ℕ). first_chunks 2 m part) half
    ∙ ap (first_chunks 2 rows) (part_is ∙ ap (take (2 * rows)) after_is) in
    let many : length chunks ≡ rows = ap length cut ∙ length-chunks 2 rows (take (2 * rows) (drop at bytes)) in
    is ∙ sym (at-map (from_le_bytes w16) chunks row [] 0 (omega (arith, many, lt)))
    ∙ ap (λ (l : List (List ℕ)). get_or (map (from_le_bytes w16) l) row 0) cut

pub no_text : (texts : List (List ℕ)) (code : ℕ) → code < length texts → None ≡ slice_get texts code → ⊥
no_text texts code lt is = let found : None ≡ Some (get_or texts code []) = is ∙ slice_get-get_or texts code [] lt in
    absurd cc

pub is_text : (texts : List (List ℕ)) (code : ℕ) (text : List ℕ) → code < length texts
    → Some text ≡ slice_get texts code → text ≡ get_or texts code []
is_text texts code text lt is = let found : Some text ≡ Some (get_or texts code []) = is
    ∙ slice_get-get_or texts code [] lt in cc
