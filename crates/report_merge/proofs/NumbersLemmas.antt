-- Numbers of parts that are merged, where none is in both.
use Rattle.std.proofs.Common.{◌≡◌, ◌∙◌, sym, ap, refl, subst, ℕ, zero, suc, ◌+◌, ◌-◌, ◌<◌, ◌≤◌, Bool, true, false, List}
use Rattle.std.proofs.Common.{[], ◌∷◌, ◌++◌, length, get_or, inl, inr, arith}
use Rattle.std.specs.Prelude.{◌&&◌, eqb, nat_le, nat_lt}
use Rattle.std.specs.List.{AllByRecursion, Contains, IsDistinct, list_any}
use Rattle.std.specs.List.Sorted.{IsNonDecreasing, IsPermutation, IsStrictlyIncreasing}
use Rattle.std.proofs.lemmas.Bool.{both_ways, cases_order, eq-eqb, eqb-true, false_from_ne_true}
use Rattle.std.proofs.lemmas.Bool.Decides.{nat_tests}
use Rattle.std.proofs.lemmas.Grind.{get_or_default_zero}
use Rattle.std.proofs.lemmas.List.Folds.{Any-from_list_any, list_any_at}
use Rattle.std.proofs.lemmas.List.Sorted.{All-permutation}
use Rattle.std.proofs.lemmas.Map.Keys.{IsDistinct-IsPermutation, IsStrictlyIncreasing-from_distinct}
use Rattle.partial_reports.specs.Head.{ascend_between}
use Rattle.report_merge.specs.Refusals.{AreDisjoint, IsLeastOfBoth}
use Rattle.report_formats.proofs.Inserted.{at_each, from_each}
use Rattle.report_merge.proofs.Gaps.{joined, next}

-- a number of a part
abbrev IsBetween : ℕ → ℕ → ℕ → Type 0
IsBetween low high number = (low < number) × (number ≤ high)

wider : (low other high : ℕ) (numbers : List ℕ) → low < other → AllByRecursion (IsBetween other high) numbers
    → AllByRecursion (IsBetween low high) numbers
wider low other high [] less all = tt
wider low other high (n ∷ ns) less all = ((omega (arith, less, all.0.0), all.0.1), wider low other high ns less all.1)

-- numbers that ascend are between two others
between : (low high : ℕ) (numbers : List ℕ) → ascend_between low high numbers ≡ true
    → AllByRecursion (IsBetween low high) numbers
between low high [] e = tt
between low high (n ∷ ns) e =
    let is = next low high n ns e in
    ((is.above, is.within), wider low n high ns is.above (between n high ns is.ascend))

differ : (n m : ℕ) → n < m → eqb n m ≡ false
differ n m less = false_from_ne_true (eqb n m) (λ e. omega (arith, less, eqb-true n m e))

all_differ : (n high : ℕ) (numbers : List ℕ) → AllByRecursion (IsBetween n high) numbers
    → AllByRecursion (λ m. eqb n m ≡ false) numbers
all_differ n high [] all = tt
all_differ n high (m ∷ ms) all = (differ n m all.0.0, all_differ n high ms all.1)

-- and differ
distinct : (low high : ℕ) (numbers : List ℕ) → ascend_between low high numbers ≡ true → IsDistinct eqb numbers
unfolding IsDistinct
distinct low high [] e = tt
distinct low high (n ∷ ns) e =
    let is = next low high n ns e in
    (all_differ n high ns (between n high ns is.ascend), distinct n high ns is.ascend)

later : (x y : ℕ) (ys : List ℕ) → Contains ys x → Contains (y ∷ ys) x
later x y ys c = (suc c.0, omega (arith, c.1), c.2)

first : (x y : ℕ) (ys : List ℕ) → y ≡ x → Contains (y ∷ ys) x
first x y ys e = (0, omega arith, e)

none_in : (x : ℕ) (ys : List ℕ) → (Contains ys x → ⊥) → AllByRecursion (λ m. eqb x m ≡ false) ys
none_in x [] none = tt
none_in x (y ∷ ys) none = (
  false_from_ne_true (eqb x y) (λ e. none (first x y ys (sym (eqb-true x y e)))),
  none_in x ys (λ c. none (later x y ys c)),
)

all_both : (P : ℕ → Type 0) (xs ys : List ℕ) → AllByRecursion P xs → AllByRecursion P ys → AllByRecursion P (xs ++ ys)
all_both P [] ys one other = other
all_both P (x ∷ xs) ys one other = (one.0, all_both P xs ys one.1 other)

distinct_both : (xs ys : List ℕ) → IsDistinct eqb xs → IsDistinct eqb ys → AreDisjoint xs ys → IsDistinct eqb (xs ++ ys)
unfolding IsDistinct
distinct_both [] ys one other apart = other
distinct_both (x ∷ xs) ys one other apart = (
  all_both (λ m. eqb x m ≡ false) xs ys one.0 (none_in x ys (apart x (first x x xs refl))),
  distinct_both xs ys one.1 other (λ n c d. apart n (later n x xs c) d),
)

-- numbers that increase from above a number up to another ascend
lt_test : (low number : ℕ) → low < number → nat_lt low number ≡ true
lt_test low number h = grind (arith, nat_tests)

le_test : (number high : ℕ) → number ≤ high → nat_le number high ≡ true
le_test number high h = grind (arith, nat_tests)

increase_on : (low n : ℕ) (ns : List ℕ) → IsStrictlyIncreasing (low ∷ n ∷ ns) → IsStrictlyIncreasing (n ∷ ns)
increase_on low n ns inc k h =
    let up : suc k + 1 ≡ suc (k + 1) = omega arith in
    subst (λ j. get_or (n ∷ ns) k 0 < get_or (low ∷ n ∷ ns) j 0) up (inc (suc k) (omega (arith, h)))

ascending : (low high : ℕ) (numbers : List ℕ) → IsStrictlyIncreasing (low ∷ numbers)
    → AllByRecursion (IsBetween 0 high) numbers → ascend_between low high numbers ≡ true
ascending low high [] inc all = refl
ascending low high (n ∷ ns) inc all =
    joined (nat_lt low n) (nat_le n high && ascend_between n high ns) (lt_test low n (inc 0 (omega arith)))
    (joined (nat_le n high) (ascend_between n high ns) (le_test n high all.0.1)
    (ascending n high ns (increase_on low n ns inc) all.1))

from_zero : (numbers : List ℕ) (high : ℕ) → AllByRecursion (IsBetween 0 high) numbers → IsStrictlyIncreasing numbers
    → IsStrictlyIncreasing (0 ∷ numbers)
from_zero [] high all inc k h = absurd (omega (arith, h))
from_zero (n ∷ ns) high all inc zero h = all.0.0
from_zero (n ∷ ns) high all inc (suc k) h =
    let up : suc (k + 1) ≡ suc k + 1 = omega arith in
    subst (λ j. get_or (n ∷ ns) k 0 < get_or (0 ∷ n ∷ ns) j 0) up (inc k (omega (arith, h)))

-- the numbers of two lists without a number in both, sorted
pub merged_ascend : (parts : ℕ) (ones others numbers : List ℕ) → ascend_between 0 parts ones ≡ true
    → ascend_between 0 parts others ≡ true → AreDisjoint ones others
    → IsPermutation (ones ++ others) numbers → IsNonDecreasing numbers → ascend_between 0 parts numbers ≡ true
merged_ascend parts ones others numbers one other apart moved sorted =
    let differs =
    IsDistinct-IsPermutation eqb flips (ones ++ others) numbers moved
    (distinct_both ones others (distinct 0 parts ones one) (distinct 0 parts others other) apart) in
    let all = from_each (IsBetween 0 parts) numbers
    (All-permutation (IsBetween 0 parts) (ones ++ others) numbers moved
    (at_each (IsBetween 0 parts) (ones ++ others)
    (all_both (IsBetween 0 parts) ones others (between 0 parts ones one) (between 0 parts others other)))) in
    ascending 0 parts numbers (from_zero numbers parts all (IsStrictlyIncreasing-from_distinct numbers sorted differs))
    all
  where
    flips : (x y : ℕ) → eqb x y ≡ eqb y x
    flips x y = grind (arith, nat_tests)

-- numbers that ascend increase
pub increase : (low high : ℕ) (numbers : List ℕ) → ascend_between low high numbers ≡ true → IsStrictlyIncreasing numbers
increase low high [] e k h = absurd (omega (arith, h))
increase low high (n ∷ []) e k h = absurd (omega (arith, h))
increase low high (n ∷ m ∷ ns) e zero h = (next n high m ns (next low high n (m ∷ ns) e).ascend).above
increase low high (n ∷ m ∷ ns) e (suc k) h =
    let up : suc (k + 1) ≡ suc k + 1 = omega arith in
    subst (λ j. get_or (m ∷ ns) k 0 < get_or (n ∷ m ∷ ns) j 0) up
    (increase n high (m ∷ ns) (next low high n (m ∷ ns) e).ascend k (omega (arith, h)))

far : (numbers : List ℕ) → IsStrictlyIncreasing numbers → (i d : ℕ) → i + suc d < length numbers
    → get_or numbers i 0 < get_or numbers (i + suc d) 0
far numbers inc i zero h = inc i h
far numbers inc i (suc d) h =
    let before : get_or numbers i 0 < get_or numbers (i + suc d) 0 = far numbers inc i d (omega (arith, h)) in
    let up : (i + suc d) + 1 ≡ i + suc (suc d) = omega arith in
    let after : get_or numbers (i + suc d) 0 < get_or numbers (i + suc (suc d)) 0 =
    subst (λ j. get_or numbers (i + suc d) 0 < get_or numbers j 0) up (inc (i + suc d) (omega (arith, h))) in
    omega (arith, before, after)

further : (numbers : List ℕ) → IsStrictlyIncreasing numbers → (i j : ℕ) → i < j → j < length numbers
    → get_or numbers i 0 < get_or numbers j 0
further numbers inc i j less within =
    let up : i + suc (j - suc i) ≡ j = omega (arith, less) in
    subst (λ k. get_or numbers i 0 < get_or numbers k 0) up (far numbers inc i (j - suc i) (omega (arith, up, within)))

-- whether a number is among others
abbrev pub is_in : List ℕ → ℕ → Bool
is_in others number = list_any (λ y. eqb y number) others

in_others : (others : List ℕ) (number : ℕ) → is_in others number ≡ true → Contains others number
in_others others number test =
    let any = Any-from_list_any (λ y. eqb y number) others test in
    let same : any.1 ≡ number = eqb-true any.1 number any.4 in
    (any.0, any.2, sym (get_or_same others any.0 any.1 number any.2) ∙ any.3 ∙ same)
  where
    get_or_same : (xs : List ℕ) (k x y : ℕ) → k < length xs → get_or xs k x ≡ get_or xs k y
    get_or_same xs k x y within = get_or_default_zero xs k x within ∙ sym (get_or_default_zero xs k y within)

found_in : (others : List ℕ) (number : ℕ) → Contains others number → is_in others number ≡ true
found_in others number c =
    list_any_at (λ y. eqb y number) others c.0 number c.1 (eq-eqb (get_or others c.0 number) number c.2)

-- the number at the place where it is
placed : (ones : List ℕ) (number : ℕ) (c : Contains ones number) → get_or ones c.0 0 ≡ number
placed ones number c = sym (get_or_default_zero ones c.0 number c.1) ∙ c.2

absent : (ones others : List ℕ) (number : ℕ) (c : Contains ones number) → Contains others number
    → is_in others (get_or ones c.0 0) ≡ false → ⊥
absent ones others number c other none =
    both_ways (is_in others (get_or ones c.0 0)) none (ap (is_in others) (placed ones number c)
    ∙ found_in others number other)

-- the first number that is among others is the least
pub first_least : (ones others : List ℕ) (place : ℕ) → IsStrictlyIncreasing ones → place < length ones
    → ((k : ℕ) → k < place → is_in others (get_or ones k 0) ≡ false)
    → is_in others (get_or ones place 0) ≡ true → IsLeastOfBoth ones others (get_or ones place 0)
first_least ones others place inc within before test = record {
  one = (place, within, get_or_default_zero ones place (get_or ones place 0) within);
  other = in_others others (get_or ones place 0) test;
  least = least;
} where
  least : (another : ℕ) → Contains ones another → Contains others another → get_or ones place 0 ≤ another
  least another c d = elim (cases_order c.0 place) [
    | inl same ↦
        (let at : get_or ones place 0 ≡ another = ap (λ k. get_or ones k 0) (sym same)
        ∙ placed ones another c in omega (arith, at))
    | inr (inl less) ↦ absurd (absent ones others another c d (before c.0 less))
    | inr (inr more) ↦ omega (arith, further ones inc place c.0 more c.1, placed ones another c)
  ]

-- none is among others
pub all_apart : (ones others : List ℕ) → ((k : ℕ) → k < length ones → is_in others (get_or ones k 0) ≡ false)
    → AreDisjoint ones others
all_apart ones others none number one other = absent ones others number one other (none one.0 one.1)
