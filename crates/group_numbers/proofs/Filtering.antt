-- Filters: how they are made, and a pass over places.
use Rattle.std.proofs.Common.{◌≡◌, ◌∙◌, sym, ap, refl, subst, ℕ, zero, suc, ◌+◌, ◌-◌, ◌<◌, ◌≤◌, ◌⊎◌, inl, inr, Bool}
use Rattle.std.proofs.Common.{true, false, cond, Option, Some, None, List, [], ◌∷◌, length, get_or, take, arith}
use Rattle.std.specs.Prelude.{nat_lt, replicate, slice_get, slice_set, unwrap_or}
use Rattle.std.specs.Int.{from_bool}
use Rattle.std.specs.List.{filter, list_all}
use Rattle.std.specs.Option.{is_some}
use Rattle.std.proofs.lemmas.Bool.Decides.{nat_tests}
use Rattle.std.proofs.lemmas.List.{drop-set-lt, get_or-drop, length-set, take_all, take-set}
use Rattle.std.proofs.lemmas.List.Filters.{FiltersInPlace, FiltersInPlace-more_no, FiltersInPlace-more_set}
use Rattle.cube_model.specs.declared.attr.Axis.{Axis}
use Rattle.cube_model.specs.declared.attr.Axis.TheVariants.{Customer, Supplier, Part, Date}
use Rattle.cube_model.specs.declared.query.Query.{Query}
use Rattle.cube_model.specs.declared.rows.DimRows.{DimRows}
use Rattle.cube_model.specs.declared.rows.LineOrder.{LineOrder}
use Rattle.cube_model.specs.Attributes.{key_on}
use Rattle.cube_model.specs.Selection.{is_selected}
use Rattle.group_numbers.specs.Filters.{passes, IsFilter}
use Rattle.group_numbers.specs.Kept.{KeepPlaces}
use Rattle.group_numbers.specs.Parts.{given_at, holds_in}
use Rattle.group_numbers.specs.Rows.{row_at}
use Rattle.group_numbers.specs.declared.filter.Filter.{Filter}
use Rattle.group_numbers.proofs.Outcomes.{given_none}
use Rattle.group_numbers.proofs.Split.{all_five, passes_at, place_on, selected_by_places}

-- ---- a filter that is made
-- the keys from a first one on that do not pass are shut
abbrev pub OnlyShuts : (ℕ → Type 0) → ℕ → List Bool → Type 0
OnlyShuts Shut first marks = (k : ℕ) → slice_get marks k ≡ Some false → Shut (first + k)

-- where all pass
pub shuts_none : (Shut : ℕ → Type 0) (first count : ℕ) → OnlyShuts Shut first (replicate count true)
shuts_none Shut first zero k e = absurd (cc e)
shuts_none Shut first (suc count) zero e = absurd (cc e)
shuts_none Shut first (suc count) (suc k) e =
    let on : first + 1 + k ≡ first + suc k = omega arith in
    subst Shut on (shuts_none Shut (first + 1) count k e)

-- what is nothing is not something
pub nothing_given : (part : Option ℕ) → is_some part ≡ false → part ≡ None
nothing_given None e = refl
nothing_given (Some one) e = absurd (cc e)

-- one mark more
pub marked : (marks : List Bool) (at k : ℕ) (mark : Bool) → slice_get (slice_set marks at mark) k ≡ Some false
    → ((k ≡ at) × (mark ≡ false)) ⊎ (slice_get marks k ≡ Some false)
marked [] at k mark e = inr e
marked (one ∷ marks) zero zero mark e = inl (refl, cc e)
marked (one ∷ marks) zero (suc k) mark e = inr e
marked (one ∷ marks) (suc at) zero mark e = inr e
marked (one ∷ marks) (suc at) (suc k) mark e = elim (marked marks at k mark e) [
  | inl here ↦ inl (ap suc here.0, here.1)
  | inr other ↦ inr other
]

found : (mark : Option Bool) → unwrap_or mark true ≡ false → mark ≡ Some false
found None e = absurd (cc e)
found (Some true) e = absurd (cc e)
found (Some false) e = refl

pub filter_shuts : (Shut : ℕ → Type 0) (made : Filter) → OnlyShuts Shut made.first made.passes.items → (key : ℕ)
    → passes made key ≡ false → Shut key
filter_shuts Shut made only key =
    (elim (nat_lt key made.first) as (λ b. nat_lt key made.first ≡ b
    → cond b true (unwrap_or (slice_get made.passes.items (key - made.first)) true) ≡ false → Shut key) [
      | true ↦ λ is e. absurd (cc e)
      | false ↦ λ is e.
          let at : made.first + (key - made.first) ≡ key = grind (arith, nat_tests, is) in
          subst Shut at (only (key - made.first) (found (slice_get made.passes.items (key - made.first)) e))
    ]) refl

-- ---- a pass over places
pub read_there : {p : ℕ → Bool} {xs ys : List ℕ} {k i : ℕ} → FiltersInPlace p xs ys k i → (d : ℕ)
    → get_or ys i d ≡ get_or xs i d
read_there {p} {xs} {ys} {k} {i} h d =
    let at : i + 0 ≡ i = omega arith in
    ap (λ (n : ℕ). get_or ys n d) (sym at) ∙ sym (get_or-drop i ys 0 d) ∙ ap (λ (l : List ℕ). get_or l 0 d) h.rest
    ∙ get_or-drop i xs 0 d ∙ ap (λ (n : ℕ). get_or xs n d) at

-- written first, and counted only where it passes
pub pass_more : {p : ℕ → Bool} {xs ys : List ℕ} {k i : ℕ} (x one : ℕ) (b : Bool) → FiltersInPlace p xs ys k i
    → i < length ys → x ≡ get_or ys i x → p x ≡ b → one ≡ from_bool b
    → FiltersInPlace p xs (slice_set ys k x) (k + one) (i + 1)
pass_more {p} {xs} {ys} {k} {i} x one true h lt is e o =
    let more : 1 ≡ one = omega (arith, o) in
    subst (λ n. FiltersInPlace p xs (slice_set ys k x) (k + n) (i + 1)) more (FiltersInPlace-more_set h lt e is)
pass_more {p} {xs} {ys} {k} {i} x one false h lt is e o =
    let same : k ≡ k + one = omega (arith, o) in
    let no = FiltersInPlace-more_no h lt e is in
    subst (λ n. FiltersInPlace p xs (slice_set ys k x) n (i + 1)) same (record {
      front = take-set ys k x ∙ no.front;
      rest = drop-set-lt (i + 1) ys k x (omega (arith, h.behind)) ∙ no.rest;
      behind = no.behind;
      within = no.within;
      long = length-set ys k x ∙ no.long;
    })

-- ---- what is left out is not selected
no_customer : (n s p d : Bool) → all_five n false s p d ≡ false
no_customer true s p d = refl
no_customer false s p d = refl

no_supplier : (n c p d : Bool) → all_five n c false p d ≡ false
no_supplier true true p d = refl
no_supplier true false p d = refl
no_supplier false c p d = refl

no_part : (n c s d : Bool) → all_five n c s false d ≡ false
no_part true true true d = refl
no_part true true false d = refl
no_part true false s d = refl
no_part false c s d = refl

no_date : (n c s p : Bool) → all_five n c s p false ≡ false
no_date true true true true = refl
no_date true true true false = refl
no_date true true false p = refl
no_date true false s p = refl
no_date false c s p = refl

module _ (dimensions : DimRows) (query : Query) (row : LineOrder) where
  abbrev on : Axis → Bool
  on axis = passes_at dimensions row query.conditions axis

  abbrev within : Bool
  within = list_all (holds_in row) query.conditions

  fails_on : (axis : Axis) → given_at dimensions query axis (place_on dimensions row axis) ≡ None → on axis ≡ false
  fails_on axis none = given_none dimensions query axis (place_on dimensions row axis) none

  pub left_out : (axis : Axis) → given_at dimensions query axis (place_on dimensions row axis) ≡ None
      → is_selected dimensions query.conditions row ≡ false
  left_out Customer none = selected_by_places dimensions row query.conditions
      ∙ (λ i. all_five within (fails_on Customer none i) (on Supplier) (on Part) (on Date))
      ∙ no_customer within (on Supplier) (on Part) (on Date)
  left_out Supplier none = selected_by_places dimensions row query.conditions
      ∙ (λ i. all_five within (on Customer) (fails_on Supplier none i) (on Part) (on Date))
      ∙ no_supplier within (on Customer) (on Part) (on Date)
  left_out Part none = selected_by_places dimensions row query.conditions
      ∙ (λ i. all_five within (on Customer) (on Supplier) (fails_on Part none i) (on Date))
      ∙ no_part within (on Customer) (on Supplier) (on Date)
  left_out Date none = selected_by_places dimensions row query.conditions
      ∙ (λ i. all_five within (on Customer) (on Supplier) (on Part) (fails_on Date none i))
      ∙ no_date within (on Customer) (on Supplier) (on Part)

filter_true : (places : List ℕ) → places ≡ filter (λ place. true) places
filter_true [] = refl
filter_true (place ∷ places) = ap (λ (l : List ℕ). place ∷ l) (filter_true places)

-- where all are kept
pub keep_all : (dimensions : DimRows) (query : Query) (rows : List LineOrder) (places : List ℕ) (count : ℕ)
    → length places ≤ count
    → KeepPlaces dimensions query.conditions rows places (take count places)
keep_all dimensions query rows places count all = record {
  test = λ row. true;
  fails = λ row h. absurd (cc h);
  kept = take_all count places all ∙ filter_true places;
}

-- where a filter keeps some
pub keep_some : (dimensions : DimRows) (query : Query) (axis : Axis) (made : Filter) (rows : List LineOrder)
    (places some : List ℕ) → IsFilter dimensions query axis made
    → some ≡ filter (λ place. passes made (key_on axis (row_at rows place))) places
    → KeepPlaces dimensions query.conditions rows places some
keep_some dimensions query axis made rows places some is kept = record {
  test = λ row. passes made (key_on axis row);
  fails = λ row h. left_out dimensions query row axis (is (key_on axis row) h);
  kept = kept;
}
