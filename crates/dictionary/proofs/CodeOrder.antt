-- Codes in the order of their first use, from some place on.
use Rattle.std.proofs.Common.{◌≡◌, ℕ, zero, suc, ◌+◌, ◌<◌, ◌≤◌, ◌==◌, ◌∙◌, nat_lt, nat_le, not, cond, Bool, true, false}
use Rattle.std.proofs.Common.{List, [], ◌∷◌, IsTrue, ◌↔◌, sym, ap, refl, subst, arith, true≢false, if◌then◌else◌}
use Rattle.std.specs.List.{filter, list_all, range_with_len}
use Rattle.std.proofs.lemmas.Bool.{eq-eqb, eqb-false, eqb-true, le-leb, lt-ltb, ltb-true}
use Rattle.dictionary.specs.Columns.{AreCodes, first_codes}

-- where the codes below `next` were used: each code is one of them or `next`, and in the end `count` were used
abbrev pub in_order : ℕ → ℕ → List ℕ → Bool
in_order count next [] = next == count
in_order count next (code ∷ codes) =
    if nat_lt code next then in_order count next codes else
    (if code == next then in_order count (next + 1) codes else false)

-- once more than all were used, nothing is in order
too_many : (count next : ℕ) (codes : List ℕ) → count < next → in_order count next codes ≡ false
too_many count next [] lt = grind arith
too_many count next (code ∷ codes) lt =
    grind (arith, too_many count next codes lt, too_many count (next + 1) codes (omega (arith, lt)))

-- once all were used, each code is one of them
pub all_used : (count : ℕ) (codes : List ℕ) → in_order count count codes ≡ list_all (λ code. nat_lt code count) codes
all_used count [] = grind arith
all_used count (code ∷ codes) = grind (arith, all_used count codes, too_many count (count + 1) codes (omega arith))

abbrev others : ℕ → ℕ → Bool
others code other = not (other == code)

-- a code below the next one is none of those from there on
lower_out : (next code : ℕ) (codes : List ℕ) → code < next → filter (nat_le next) (filter (others code) codes)
    ≡ filter (nat_le next) codes
lower_out next code [] lt = refl
lower_out next code (first ∷ codes) lt = grind (arith, lower_out next code codes lt)

-- without the next one those from the one after it are left
next_out : (next : ℕ) (codes : List ℕ) → filter (nat_le next) (filter (others next) codes)
    ≡ filter (nat_le (next + 1)) codes
next_out next [] = refl
next_out next (first ∷ codes) = grind (arith, next_out next codes)

-- codes are in order from some place on exactly where those from there on, each once, are the numbers from there on
abbrev Agree : ℕ → ℕ → List ℕ → Type 0
Agree left next codes = IsTrue (in_order (next + left) next codes)
    ↔ (filter (nat_le next) (first_codes codes) ≡ range_with_len next left)

agree_so : (a b : Bool) (xs ys zs : List ℕ) → a ≡ b → xs ≡ ys → IsTrue b ↔ (ys ≡ zs) → IsTrue a ↔ (xs ≡ zs)
agree_so a b xs ys zs same alike agree = rw (same, alike) agree

agree_not : (a : Bool) (xs zs : List ℕ) → a ≡ false → (xs ≡ zs → ⊥) → IsTrue a ↔ (xs ≡ zs)
agree_not a xs zs is differs = (λ e. absurd (true≢false (sym e ∙ is)), λ e. absurd (differs e))

none_left : (left next : ℕ) → Agree left next []
none_left zero next = (λ e. refl, λ e. let same : next ≡ next + 0 = omega arith in eq-eqb next (next + 0) same)
none_left (suc left) next = (
  λ e. let same : next ≡ next + suc left = eqb-true next (next + suc left) e in absurd (omega arith),
  λ e. cc,
)

module _ (left next code : ℕ) (codes : List ℕ) where
  lower_code : code < next → Agree left next codes → Agree left next (code ∷ codes)
  lower_code lt agree =
      let test : nat_lt code next ≡ true = lt-ltb code next lt in
      let out : nat_le next code ≡ false = grind arith in
      agree_so _ _ _ _ _
      (ap (λ b. if b then in_order (next + left) next codes else
      (if code == next then in_order (next + left) (next + 1) codes else false)) test)
      (ap (λ b. cond b (code ∷ filter (nat_le next) (filter (others code) (first_codes codes)))
      (filter (nat_le next) (filter (others code) (first_codes codes)))) out
      ∙ lower_out next code (first_codes codes) lt)
      agree

  -- a code that is not below the next one is in front
  in_front : next ≤ code → filter (nat_le next) (first_codes (code ∷ codes)) ≡ code
      ∷ filter (nat_le next) (filter (others code) (first_codes codes))
  in_front le =
      let kept : nat_le next code ≡ true = le-leb next code le in
      ap (λ b. cond b (code ∷ filter (nat_le next) (filter (others code) (first_codes codes)))
      (filter (nat_le next) (filter (others code) (first_codes codes)))) kept

  in_test : next ≤ code
      → in_order (next + left) next (code ∷ codes)
      ≡ (if code == next then in_order (next + left) (next + 1) codes else false)
  in_test le =
      let test : nat_lt code next ≡ false = grind arith in
      ap (λ b. if b then in_order (next + left) next codes else
      (if code == next then in_order (next + left) (next + 1) codes else false)) test

  higher_code : next < code → Agree left next (code ∷ codes)
  higher_code lt =
      let test : (code == next) ≡ false = grind arith in
      agree_not _ _ _
      (in_test (omega arith) ∙ ap (λ b. if b then in_order (next + left) (next + 1) codes else false) test)
      (λ e. differs left (sym (in_front (omega arith)) ∙ e))
    where
      differs : (n : ℕ) → code ∷ filter (nat_le next) (filter (others code) (first_codes codes)) ≡ range_with_len next n
          → ⊥
      differs zero e = cc
      differs (suc n) e = let same : code ≡ next = cc in omega arith

next_code : (left next : ℕ) (codes : List ℕ) → ((k n : ℕ) → Agree k n codes) → Agree left next (next ∷ codes)
next_code zero next codes agree =
    let test : (next == next) ≡ true = eq-eqb next next refl in
    agree_not _ _ _
    (in_test 0 next next codes (omega arith) ∙ ap (λ b. if b then in_order (next + 0) (next + 1) codes else false) test
    ∙ too_many (next + 0) (next + 1) codes (omega arith))
    (λ e. let front = sym (in_front 0 next next codes (omega arith)) ∙ e in cc)
next_code (suc left) next codes agree =
    let test : (next == next) ≡ true = eq-eqb next next refl in
    let count : next + suc left ≡ next + 1 + left = omega arith in
    let rest : Agree left (next + 1) codes = agree left (next + 1) in
    let one = in_test (suc left) next next codes (omega arith)
    ∙ ap (λ b. if b then in_order (next + suc left) (next + 1) codes else false) test
    ∙ ap (λ n. in_order n (next + 1) codes) count in
    let front = in_front (suc left) next next codes (omega arith)
    ∙ ap (λ l. next ∷ l) (next_out next (first_codes codes)) in (
      λ e. front ∙ ap (λ l. next ∷ l) (rest.0 (sym one ∙ e)),
      λ e. one ∙ rest.1
          (tail (filter (nat_le (next + 1)) (first_codes codes)) (range_with_len (next + 1) left) (sym front ∙ e)),
    )
  where
    tail : (xs ys : List ℕ) → next ∷ xs ≡ next ∷ ys → xs ≡ ys
    tail xs ys e = cc

any_code : (left next code : ℕ) (codes : List ℕ) → ((k n : ℕ) → Agree k n codes) → Agree left next (code ∷ codes)
any_code left next code codes agree = first (nat_lt code next) refl
  where
    second : (same : Bool) → (code == next) ≡ same → next ≤ code → Agree left next (code ∷ codes)
    second true is le = let same : code ≡ next = eqb-true code next is in
        subst (λ (n : ℕ). Agree left next (n ∷ codes)) (sym same) (next_code left next codes agree)
    second false is le = let differs = eqb-false code next is in higher_code left next code codes (omega arith)

    first : (lower : Bool) → nat_lt code next ≡ lower → Agree left next (code ∷ codes)
    first true is = lower_code left next code codes (ltb-true code next is) (agree left next)
    first false is = let le : next ≤ code = grind arith in second (code == next) refl le

agree_all : (codes : List ℕ) (left next : ℕ) → Agree left next codes
agree_all [] left next = none_left left next
agree_all (code ∷ codes) left next = any_code left next code codes (λ k n. agree_all codes k n)

all_kept : (codes : List ℕ) → filter (nat_le 0) codes ≡ codes
all_kept [] = refl
all_kept (code ∷ codes) = let kept : nat_le 0 code ≡ true = le-leb 0 code (omega arith) in
    rw (kept, all_kept codes) refl

-- the check of codes is that of their definition
pub in_order_is : (count : ℕ) (codes : List ℕ) (b : Bool) → in_order count 0 codes ≡ b → IsTrue b ↔ AreCodes count codes
in_order_is count codes b is =
    let zero_add : 0 + count ≡ count = omega arith in
    agree_so _ _ _ _ _ (sym is ∙ ap (λ n. in_order n 0 codes) (sym zero_add)) (sym (all_kept (first_codes codes)))
    (agree_all codes count 0)
