-- Slots of numbers: those that are there from the start, and those that are given.
use Rattle.std.proofs.Common.{◌≡◌, ◌≢◌, ◌∙◌, sym, ap, refl, subst, ℕ, zero, suc, ◌+◌, ◌-◌, ◌<◌, ◌≤◌, true, false, cond}
use Rattle.std.proofs.Common.{List, [], ◌∷◌, map, length, Some, None, arith, ◌⊎◌, inl, inr}
use Rattle.std.specs.Prelude.{MatchOption}
use Rattle.std.specs.BTreeMap.{is_at}
use Rattle.std.specs.Cmp.{Equal-is}
use Rattle.std.specs.FinMap.{nat_cmp-IsAntisymmetric}
use Rattle.std.specs.List.{AllByRecursion}
use Rattle.std.specs.List.Sorted.{IsStrictlySortedBy}
use Rattle.std.specs.Ordering.{nat_cmp}
use Rattle.std.specs.declared.cmp.Ordering.TheVariants.{Less}
use Rattle.std.proofs.lemmas.Cmp.{nat_cmp_total, eq_by_cmp_equiv}
use Rattle.std.proofs.lemmas.Bool.Decides.{nat_tests}
use Rattle.group_tallies.specs.Slots.{numbers_from, slot_of, AreSlots, AddsSlot, Places, Grow}

-- ---- tests of numbers
pub at_same : (number : ℕ) → is_at (nat_cmp number) number ≡ true
at_same number = (eq_by_cmp_equiv nat_cmp_total).refl number

pub at_true : (number other : ℕ) → is_at (nat_cmp number) other ≡ true → number ≡ other
at_true number other e = nat_cmp-IsAntisymmetric number other ((Equal-is (nat_cmp number other)).0 e)

pub at_apart : (number other : ℕ) → number ≢ other → is_at (nat_cmp number) other ≡ false
at_apart number other apart =
    elim (is_at (nat_cmp number) other) as (λ b. is_at (nat_cmp number) other ≡ b → b ≡ false) [
      | true ↦ λ e. absurd (apart (at_true number other e))
      | false ↦ λ e. refl
    ] refl

pub below_less : (number other : ℕ) → number < other → nat_cmp number other ≡ Less
below_less number other h = grind (arith, nat_tests)

-- ---- numbers that have themselves for slots
pub numbers_from-next : (first count : ℕ) → first < count → numbers_from first (count - first) ≡ (first, first)
    ∷ numbers_from (first + 1) (count - (first + 1))
numbers_from-next first count h =
    let one : count - first ≡ suc (count - (first + 1)) = omega (arith, h) in
    let next : suc first ≡ first + 1 = omega arith in
    ap (numbers_from first) one ∙ ap (λ n. (first, first) ∷ numbers_from n (count - (first + 1))) next

pub length-numbers_from : (first count : ℕ) → length (numbers_from first count) ≡ count
length-numbers_from first zero = refl
length-numbers_from first (suc count) = ap suc (length-numbers_from (suc first) count)

pub slot_of-same : (first count number : ℕ) → first ≤ number → number < first + count
    → slot_of (numbers_from first count) number ≡ Some number
slot_of-same first zero number low high = absurd (omega (arith, low, high))
slot_of-same first (suc count) number low high =
    elim (is_at (nat_cmp number) first) as (λ b. is_at (nat_cmp number) first ≡ b
    → cond b (Some first) (slot_of (numbers_from (suc first) count) number) ≡ Some number) [
      | true ↦ λ e. ap Some (sym (at_true number first e))
      | false ↦ λ e.
          let other : number ≢ first =
          λ same. (let here : is_at (nat_cmp number) first ≡ true = ap (is_at (nat_cmp number)) (sym same)
          ∙ at_same number in cc (here, e)) in
          slot_of-same (suc first) count number (omega (arith, low, other)) (omega (arith, high))
    ] refl

slot_of-is : (first count number slot : ℕ) → slot_of (numbers_from first count) number ≡ Some slot
    → (slot ≡ number) × (number < first + count)
slot_of-is first zero number slot = λ found. absurd (cc found)
slot_of-is first (suc count) number slot =
    elim (is_at (nat_cmp number) first) as (λ b. is_at (nat_cmp number) first ≡ b
    → cond b (Some first) (slot_of (numbers_from (suc first) count) number) ≡ Some slot
    → (slot ≡ number) × (number < first + suc count)) [
      | true ↦ λ e found.
          let same : number ≡ first = at_true number first e in
          let is : slot ≡ first = cc found in
          (is ∙ sym same, omega (arith, same))
      | false ↦ λ e found.
          let rest = slot_of-is (suc first) count number slot found in
          (rest.0, omega (arith, rest.1))
    ] refl

numbers_from-above : (low first count : ℕ) → low < first
    → AllByRecursion (λ other. nat_cmp low other ≡ Less) (map (λ e. e.0) (numbers_from first count))
numbers_from-above low first zero h = tt
numbers_from-above low first (suc count) h =
    (below_less low first h, numbers_from-above low (suc first) count (omega (arith, h)))

numbers_from-sorted : (first count : ℕ) → IsStrictlySortedBy nat_cmp (map (λ e. e.0) (numbers_from first count))
unfolding IsStrictlySortedBy
numbers_from-sorted first zero = tt
numbers_from-sorted first (suc count) =
    (numbers_from-above first (suc first) count (omega arith), numbers_from-sorted (suc first) count)

pub AreSlots-same : (count : ℕ) → AreSlots count (numbers_from 0 count)
AreSlots-same count = record {
  sorted = numbers_from-sorted 0 count;
  below = λ number slot found. omega (arith, (slot_of-is 0 count number slot found).1);
  within = λ number slot found. let is = slot_of-is 0 count number slot found in
      omega (arith, is.0, is.1, length-numbers_from 0 count);
  apart = λ number other slot found again. sym (slot_of-is 0 count number slot found).0
      ∙ (slot_of-is 0 count other slot again).0;
}

-- ---- numbers that are given slots
pub AreSlots-none : (bound : ℕ) → AreSlots bound []
unfolding IsStrictlySortedBy
AreSlots-none bound = record {
  sorted = tt;
  below = λ number slot found. absurd (cc found);
  within = λ number slot found. absurd (cc found);
  apart = λ number other slot found again. absurd (cc found);
}

pub Grow-same : (bound : ℕ) (entries : List (ℕ × ℕ)) → AreSlots bound entries → Grow bound entries entries
Grow-same bound entries are = record {
  slots = are;
  longer = omega arith;
  keep = λ number slot found. found;
  fresh = λ number slot found. inl found;
}

-- what a number has after one was added
module _ (old : List (ℕ × ℕ)) (number slot : ℕ) (new : List (ℕ × ℕ)) (absent : slot_of old number ≡ None)
    (adds : AddsSlot old number slot new) where
  Adds-keep : (other place : ℕ) → slot_of old other ≡ Some place → slot_of new other ≡ Some place
  Adds-keep other place found =
      adds.slots other
      ∙ elim (is_at (nat_cmp number) other) as (λ b. is_at (nat_cmp number) other ≡ b
      → cond b (Some slot) (slot_of old other) ≡ Some place) [
        | true ↦ λ e. (let same : slot_of old other ≡ None = ap (slot_of old) (sym (at_true number other e))
            ∙ absent in absurd (cc (same, found)))
        | false ↦ λ e. found
      ] refl

  Adds-found : (other place : ℕ) → slot_of new other ≡ Some place → (slot_of old other ≡ Some place)
      ⊎ ((other ≡ number) × (place ≡ length old))
  Adds-found other place found =
      (elim (is_at (nat_cmp number) other) as (λ b. is_at (nat_cmp number) other ≡ b
      → cond b (Some slot) (slot_of old other) ≡ Some place → (slot_of old other ≡ Some place)
      ⊎ ((other ≡ number) × (place ≡ length old))) [
        | true ↦ λ e is. (let here : place ≡ slot = cc is in inr (sym (at_true number other e), here ∙ adds.slot_is))
        | false ↦ λ e is. inl is
      ]) refl (sym (adds.slots other) ∙ found)

  AreSlots-add : (bound : ℕ) → number < bound → AreSlots bound old → AreSlots bound new
  AreSlots-add bound h are = record {
    sorted = adds.sorted;
    below = λ other place found. elim (Adds-found other place found) [
      | inl kept ↦ are.below other place kept
      | inr added ↦ subst (λ n. n < bound) (sym added.0) h
    ];
    within = λ other place found. elim (Adds-found other place found) [
      | inl kept ↦ omega (arith, are.within other place kept, adds.longer)
      | inr added ↦ omega (arith, added.1, adds.longer)
    ];
    apart = λ left right place found again. elim (Adds-found left place found) [
      | inl kept ↦ elim (Adds-found right place again) [
        | inl too ↦ are.apart left right place kept too
        | inr added ↦ absurd (omega (arith, are.within left place kept, added.1))
      ]
      | inr added ↦ elim (Adds-found right place again) [
        | inl too ↦ absurd (omega (arith, are.within right place too, added.1))
        | inr both ↦ added.0 ∙ sym both.0
      ]
    ];
  }

  Grow-add : (bound : ℕ) → number < bound → (first : List (ℕ × ℕ)) → Grow bound first old → Grow bound first new
  Grow-add bound h first grown = record {
    slots = AreSlots-add bound h grown.slots;
    longer = omega (arith, grown.longer, adds.longer);
    keep = λ other place found. Adds-keep other place (grown.keep other place found);
    fresh = λ other place found. elim (Adds-found other place found) [
      | inl kept ↦ grown.fresh other place kept
      | inr added ↦ inr (
        (elim (slot_of first other) as (λ o. slot_of first other ≡ o → o ≡ None) [
          | None ↦ λ e. refl
          | Some taken ↦ λ e.
              let kept : slot_of old other ≡ Some taken = grown.keep other taken e in
              let none : slot_of old other ≡ None = ap (slot_of old) added.0 ∙ absent in
              absurd (cc (kept, none))
        ]) refl,
        omega (arith, grown.longer, added.1),
      )
    ];
  }

-- a number is given its slot
pub Grow-place : (bound : ℕ) (first old : List (ℕ × ℕ)) (number slot : ℕ) (new : List (ℕ × ℕ)) → number < bound
    → Places old number slot new → Grow bound first old → Grow bound first new
Grow-place bound first old number slot new h places grown =
    (elim (slot_of old number) as
    (λ o. slot_of old number ≡ o → MatchOption o (AddsSlot old number slot new) (λ kept. (slot ≡ kept) × (new ≡ old))
    → Grow bound first new) [
      | None ↦ λ e adds. Grow-add old number slot new e adds bound h first grown
      | Some kept ↦ λ e is. subst (Grow bound first) (sym is.1) grown
    ]) refl places

pub Places-found : (old : List (ℕ × ℕ)) (number slot : ℕ) (new : List (ℕ × ℕ)) → Places old number slot new
    → slot_of new number ≡ Some slot
Places-found old number slot new places =
    (elim (slot_of old number) as
    (λ o. slot_of old number ≡ o → MatchOption o (AddsSlot old number slot new) (λ kept. (slot ≡ kept) × (new ≡ old))
    → slot_of new number ≡ Some slot) [
      | None ↦ λ e adds. adds.slots number ∙ ap (λ b. cond b (Some slot) (slot_of old number)) (at_same number)
      | Some kept ↦ λ e is. ap (λ entries. slot_of entries number) is.1 ∙ e ∙ ap Some (sym is.0)
    ]) refl places

-- a number that had a slot before has it still
pub Places-keep : (old : List (ℕ × ℕ)) (number slot : ℕ) (new : List (ℕ × ℕ)) → Places old number slot new
    → (other place : ℕ) → slot_of old other ≡ Some place → slot_of new other ≡ Some place
Places-keep old number slot new places other place found =
    (elim (slot_of old number) as
    (λ o. slot_of old number ≡ o → MatchOption o (AddsSlot old number slot new) (λ kept. (slot ≡ kept) × (new ≡ old))
    → slot_of new other ≡ Some place) [
      | None ↦ λ e adds. Adds-keep old number slot new e adds other place found
      | Some kept ↦ λ e is. ap (λ entries. slot_of entries other) is.1 ∙ found
    ]) refl places
