-- The places of keys that count on.
use Rattle.std.proofs.Common.{◌≡◌, sym, ℕ, ◌+◌, ◌-◌, ◌<◌, ◌≤◌, ◌==◌, true, false, List, length, get_or, arith}
use Rattle.std.specs.List.{position_or_len}
use Rattle.std.proofs.lemmas.Bool.Decides.{nat_tests}
use Rattle.std.proofs.lemmas.List.Sums.{position_or_len_is}
use Rattle.dimensions.specs.Coded.{KeysAreDistinct}
use Rattle.dimensions.specs.RowIndexes.{CountOn}
use Rattle.dimensions.proofs.KeyLaws.{places_distinct}

other : (a b : ℕ) → a < b → (a == b) ≡ false
other a b less = grind (arith, nat_tests)

later : (a b : ℕ) → b < a → (a == b) ≡ false
later a b more = grind (arith, nat_tests)

same : (a b : ℕ) → a ≡ b → (a == b) ≡ true
same a b is = grind (arith, nat_tests)

-- a key from the first on is where it says, or after all
pub place_from : (first key : ℕ) (keys : List ℕ) → CountOn first keys → first ≤ key → (place : ℕ) → place ≤ length keys
    → place ≤ key - first
    → (place < length keys → place ≡ key - first) → place ≡ position_or_len (λ other. other == key) keys
place_from first key keys counted from place within low reached =
    sym (position_or_len_is (λ other. other == key) keys place 0 within
    (λ k below. other (get_or keys k 0) key (omega (arith, counted k (omega arith))))
    (λ below. same (get_or keys place 0) key (omega (arith, counted place below, reached below))))

-- a key before the first is none of them
pub place_before : (first key : ℕ) (keys : List ℕ) → CountOn first keys → key < first
    → length keys ≡ position_or_len (λ other. other == key) keys
place_before first key keys counted before =
    sym (position_or_len_is (λ other. other == key) keys (length keys) 0 (omega arith)
    (λ k below. later (get_or keys k 0) key (omega (arith, counted k below)))
    (λ below. absurd (omega (arith, below))))

-- such keys are all different
pub counted_distinct : (first : ℕ) (keys : List ℕ) → CountOn first keys → KeysAreDistinct keys
counted_distinct first keys counted =
    places_distinct keys (λ row lt.
    let at : get_or keys row 0 ≡ first + row = counted row lt in
    sym (place_from first (get_or keys row 0) keys counted (omega (arith, at)) row (omega (arith, lt))
    (omega (arith, at)) (λ below. omega (arith, at))))
