-- Pieces of a line, and the place of the next LF.
use Rattle.std.proofs.Common.{◌≡◌, ◌∙◌, sym, ap, refl, ℕ, ◌+◌, ◌-◌, ◌<◌, ◌≤◌, Bool, true, false, cond, List, [], ◌∷◌}
use Rattle.std.proofs.Common.{◌++◌, length, arith, Some, None, length-append, get_or, take, drop, slice_range}
use Rattle.std.proofs.lemmas.List.{drop-drop, drop-take}
use Rattle.std.proofs.lemmas.Grind.{common_steps}
use Rattle.std.specs.Prelude.{Option, ◌==◌, suc, zero}
use Rattle.std.specs.Io.KnownBytes.{Keeps, prepend_known}
use Rattle.batch_loader.specs.Lines.{lines_of, onto_first_line}
use Rattle.batch_loader.specs.Fronts.{with_front, IsFront}
use Rattle.batch_loader.specs.Reading.{TakesLine, IsLongLine}
use Rattle.batch_loader.proofs.LineFronts.{with_front-cons}

short_slice : (n count : ℕ) (xs : List ℕ) → count ≤ length (take n xs) → count ≤ n
short_slice n count xs within = grind (arith, common_steps)

cut_at : (n count : ℕ) → count ≤ n → count + (n - count) ≡ n
cut_at n count within = omega (arith, within)

less_by : (from to count : ℕ) → to - (from + count) ≡ (to - from) - count
less_by from to count = omega arith

-- the front of a slice is dropped by moving its start
pub slice_range-skip : (count from to : ℕ) (xs ys : List ℕ) → slice_range xs from to ≡ ys → count ≤ length ys
    → slice_range xs (from + count) to ≡ drop count ys
slice_range-skip count from to xs ys is within =
    let inside : count ≤ to - from =
    short_slice (to - from) count (drop from xs) (omega (arith, ap length is, within)) in
    ap (λ n. take n (drop (from + count) xs)) (less_by from to count)
    ∙ ap (λ rest. take (to - from - count) rest) (sym (drop-drop count from xs))
    ∙ sym (drop-take count (to - from - count) (drop from xs))
    ∙ ap (λ n. drop count (take n (drop from xs))) (cut_at (to - from) count inside)
    ∙ ap (drop count) is

not_true : (b : Bool) → (b ≡ true → ⊥) → b ≡ false
not_true true refuted = absurd (refuted refl)
not_true false refuted = refl

-- no LF is at the first places
abbrev pub NoLf : List ℕ → ℕ → Type 0
NoLf xs n = (k : ℕ) → k < n → (get_or xs k 0 == 10) ≡ true → ⊥

pub with_front-append : (front piece : List ℕ) (lines : List (List ℕ))
    → with_front front (with_front piece lines) ≡ with_front (front ++ piece) lines
with_front-append [] piece lines = refl
with_front-append (byte ∷ front) piece lines = ap (onto_first_line byte) (with_front-append front piece lines)

with_front-nil : (front : List ℕ) → 0 < length front → with_front front [] ≡ (front ++ []) ∷ []
with_front-nil [] some = absurd (omega arith)
with_front-nil (byte ∷ []) some = refl
with_front-nil (byte ∷ next ∷ front) some = ap (onto_first_line byte) (with_front-nil (next ∷ front) (omega arith))

with_front-split : (front : List ℕ) (lines : List (List ℕ)) → 0 < length front
    → (line : List ℕ) × (others : List (List ℕ)) × (with_front front lines ≡ (front ++ line) ∷ others)
with_front-split front [] some = ([], [], with_front-nil front some)
with_front-split front (line ∷ lines) some = (line, lines, with_front-cons front line lines)

byte_on : (byte : ℕ) (bytes : List ℕ) → ((byte == 10) ≡ true → ⊥)
    → lines_of (byte ∷ bytes) ≡ onto_first_line byte (lines_of bytes)
byte_on byte bytes other =
    ap (λ b. cond b ([] ∷ lines_of bytes) (onto_first_line byte (lines_of bytes))) (not_true (byte == 10) other)

-- places with no LF are the front of a line
lines_of-part : (xs ys : List ℕ) (n : ℕ) → n ≤ length xs → NoLf xs n
    → lines_of (xs ++ ys) ≡ with_front (take n xs) (lines_of (drop n xs ++ ys))
lines_of-part xs ys zero within none = refl
lines_of-part [] ys (suc n) within none = absurd (omega arith)
lines_of-part (byte ∷ xs) ys (suc n) within none =
    byte_on byte (xs ++ ys) (none 0 (omega arith))
    ∙ ap (onto_first_line byte) (lines_of-part xs ys n (omega arith) (λ k below. none (suc k) (omega arith)))

-- an LF after them ends it
lines_of-at : (xs ys : List ℕ) (at : ℕ) → at < length xs → NoLf xs at → (get_or xs at 0 == 10) ≡ true
    → lines_of (xs ++ ys) ≡ take at xs ∷ lines_of (drop (suc at) xs ++ ys)
lines_of-at [] ys at within none here = absurd (omega arith)
lines_of-at (byte ∷ xs) ys zero within none here =
    ap (λ b. cond b ([] ∷ lines_of (xs ++ ys)) (onto_first_line byte (lines_of (xs ++ ys)))) here
lines_of-at (byte ∷ xs) ys (suc at) within none here =
    byte_on byte (xs ++ ys) (none 0 (omega arith))
    ∙ ap (onto_first_line byte) (lines_of-at xs ys at (omega arith) (λ k below. none (suc k) (omega arith)) here)

next_is : (at : ℕ) → suc at ≡ at + 1
next_is at = omega arith

pub TakesLine-at : (old left : Option (List ℕ)) (xs front : List ℕ) (at : ℕ) → at < length xs → NoLf xs at
    → (get_or xs at 0 == 10) ≡ true
    → IsFront old (prepend_known xs left) front
    → TakesLine old (prepend_known (drop (at + 1) xs) left) (front ++ take at xs)
TakesLine-at None left xs front at within none here before = tt
TakesLine-at (Some text) None xs front at within none here before = absurd before
TakesLine-at (Some text) (Some rest) xs front at within none here before =
    before ∙ ap (with_front front) (lines_of-at xs rest at within none here)
    ∙ with_front-cons front (take at xs) (lines_of (drop (suc at) xs ++ rest))
    ∙ ap (λ n. (front ++ take at xs) ∷ lines_of (drop n xs ++ rest)) (next_is at)

take_whole : (xs : List ℕ) → take (length xs) xs ≡ xs
take_whole xs = grind (arith, common_steps)

pub IsFront-all : (old left : Option (List ℕ)) (xs front : List ℕ) → NoLf xs (length xs)
    → IsFront old (prepend_known xs left) front → IsFront old (prepend_known (drop (length xs) xs) left) (front ++ xs)
IsFront-all None left xs front none before = tt
IsFront-all (Some text) None xs front none before = absurd before
IsFront-all (Some text) (Some rest) xs front none before =
    before ∙ ap (with_front front) (lines_of-part xs rest (length xs) (omega arith) none)
    ∙ with_front-append front (take (length xs) xs) (lines_of (drop (length xs) xs ++ rest))
    ∙ ap (λ piece. with_front (front ++ piece) (lines_of (drop (length xs) xs ++ rest))) (take_whole xs)

long_length : (front piece line : List ℕ) (limit n : ℕ) → length piece ≡ n → limit < length front + n
    → limit < length ((front ++ piece) ++ line)
long_length front piece line limit n is long =
    omega (arith, length-append (front ++ piece) line, length-append front piece, is, long)

length_take : (xs : List ℕ) (n : ℕ) → n ≤ length xs → length (take n xs) ≡ n
length_take xs n within = grind (arith, common_steps)

pub IsLongLine-part : (old left : Option (List ℕ)) (xs front : List ℕ) (n limit : ℕ) → n ≤ length xs → NoLf xs n
    → limit < length front + n
    → IsFront old (prepend_known xs left) front → IsLongLine old limit
IsLongLine-part None left xs front n limit within none long before = tt
IsLongLine-part (Some text) None xs front n limit within none long before = absurd before
IsLongLine-part (Some text) (Some rest) xs front n limit within none long before =
    let is = length_take xs n within in
    let split =
    with_front-split (front ++ take n xs) (lines_of (drop n xs ++ rest))
    (omega (arith, length-append front (take n xs), is, long)) in (
      (front ++ take n xs) ++ split.0,
      split.1,
      before ∙ ap (with_front front) (lines_of-part xs rest n within none)
          ∙ with_front-append front (take n xs) (lines_of (drop n xs ++ rest)) ∙ split.2,
      long_length front (take n xs) split.0 limit n is long,
    )

-- what is left may move between a window and its reader
pub IsFront-keeps : (old now new : Option (List ℕ)) (front : List ℕ) → IsFront old now front → Keeps now new
    → IsFront old new front
IsFront-keeps None now new front before keeps = tt
IsFront-keeps (Some text) None new front before keeps = absurd before
IsFront-keeps (Some text) (Some rest) None front before keeps = absurd keeps
IsFront-keeps (Some text) (Some rest) (Some after) front before keeps = before
    ∙ ap (λ t. with_front front (lines_of t)) (sym keeps)
