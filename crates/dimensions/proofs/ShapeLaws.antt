-- The columns of a dimension and the links between them, one by one.
use Rattle.std.proofs.Common.{◌≡◌, ◌<◌, ◌+◌, ◌∙◌, zero, suc, ap, refl, subst, arith, ℕ, Bool, true, false, ◌||◌, List}
use Rattle.std.proofs.Common.{[], ◌∷◌, length, get_or, Option, Some, None}
use Rattle.std.specs.List.{list_any}
use Rattle.cube_model.specs.declared.attr.Axis.{Axis}
use Rattle.cube_model.specs.declared.attr.Axis.TheVariants.{Customer, Supplier, Part, Date}
use Rattle.dictionary.proofs.CallerLemmas.{or_both}
use Rattle.dimensions.specs.TextRows.{TextRow, text_in}
use Rattle.dimensions.specs.Shapes.{lower_of, texts_from, links_from}

or_true : (b : Bool) → (b || true) ≡ true
or_true true = refl
or_true false = refl

next : (n i : ℕ) → n + suc i ≡ suc n + i
next n i = omega arith

-- a test of columns
module _ (f : (TextRow → List ℕ) → Bool) where
  texts_none_from : (n : ℕ) (lowers : List (Option ℕ)) → ((i : ℕ) → i < length lowers → f (text_in (n + i)) ≡ false)
      → list_any f (texts_from n lowers) ≡ false
  texts_none_from n [] none = refl
  texts_none_from n (lower ∷ lowers) none =
      let here : n + 0 ≡ n = omega arith in
      or_both _ _ (subst (λ k. f (text_in k) ≡ false) here (none 0 (omega arith)))
      (texts_none_from (suc n) lowers
      (λ i lt. subst (λ k. f (text_in k) ≡ false) (next n i) (none (suc i) (omega (arith, lt)))))

  texts_some_from : (n : ℕ) (lowers : List (Option ℕ)) (i : ℕ) → i < length lowers → f (text_in (n + i)) ≡ true
      → list_any f (texts_from n lowers) ≡ true
  texts_some_from n [] i lt here = absurd (omega (arith, lt))
  texts_some_from n (lower ∷ lowers) zero lt here =
      let at : n + 0 ≡ n = omega arith in
      ap (λ b. b || list_any f (texts_from (suc n) lowers)) (subst (λ k. f (text_in k) ≡ true) at here)
  texts_some_from n (lower ∷ lowers) (suc i) lt here =
      ap (λ b. f (text_in n) || b)
      (texts_some_from (suc n) lowers i (omega (arith, lt)) (subst (λ k. f (text_in k) ≡ true) (next n i) here))
      ∙ or_true (f (text_in n))

  pub texts_none : (lowers : List (Option ℕ)) → ((i : ℕ) → i < length lowers → f (text_in i) ≡ false)
      → list_any f (texts_from 0 lowers) ≡ false
  texts_none lowers none =
      texts_none_from 0 lowers
      (λ i lt. let at : i ≡ 0 + i = omega arith in subst (λ k. f (text_in k) ≡ false) at (none i lt))

  pub texts_some : (lowers : List (Option ℕ)) (i : ℕ) → i < length lowers → f (text_in i) ≡ true
      → list_any f (texts_from 0 lowers) ≡ true
  texts_some lowers i lt here =
      texts_some_from 0 lowers i lt (let at : i ≡ 0 + i = omega arith in subst (λ k. f (text_in k) ≡ true) at here)

-- a test of links
module _ (f : ((TextRow → List ℕ) × (TextRow → List ℕ)) → Bool) where
  links_none_from : (n : ℕ) (lowers : List (Option ℕ))
      → ((i j : ℕ) → i < length lowers → get_or lowers i None ≡ Some j → f (text_in j, text_in (n + i)) ≡ false)
      → list_any f (links_from n lowers) ≡ false
  links_none_from n [] none = refl
  links_none_from n (None ∷ lowers) none =
      links_none_from (suc n) lowers
      (λ i j lt at. subst (λ k. f (text_in j, text_in k) ≡ false) (next n i)
      (none (suc i) j (omega (arith, lt)) at))
  links_none_from n (Some lower ∷ lowers) none =
      let here : n + 0 ≡ n = omega arith in
      or_both _ _ (subst (λ k. f (text_in lower, text_in k) ≡ false) here (none 0 lower (omega arith) refl))
      (links_none_from (suc n) lowers
      (λ i j lt at. subst (λ k. f (text_in j, text_in k) ≡ false) (next n i)
      (none (suc i) j (omega (arith, lt)) at)))

  links_some_from : (n : ℕ) (lowers : List (Option ℕ)) (i j : ℕ) → get_or lowers i None ≡ Some j
      → f (text_in j, text_in (n + i)) ≡ true → list_any f (links_from n lowers) ≡ true
  links_some_from n [] i j at here = absurd cc
  links_some_from n (None ∷ lowers) zero j at here = absurd cc
  links_some_from n (None ∷ lowers) (suc i) j at here =
      links_some_from (suc n) lowers i j at (subst (λ k. f (text_in j, text_in k) ≡ true) (next n i) here)
  links_some_from n (Some lower ∷ lowers) zero j at here =
      let is : n + 0 ≡ n = omega arith in
      let same : j ≡ lower = cc in
      let here' : f (text_in lower, text_in n) ≡ true =
      subst (λ k. f (text_in lower, text_in k) ≡ true) is
      (subst (λ l. f (text_in l, text_in (n + 0)) ≡ true) same here) in
      ap (λ b. b || list_any f (links_from (suc n) lowers)) here'
  links_some_from n (Some lower ∷ lowers) (suc i) j at here =
      ap (λ b. f (text_in lower, text_in n) || b)
      (links_some_from (suc n) lowers i j at (subst (λ k. f (text_in j, text_in k) ≡ true) (next n i) here))
      ∙ or_true (f (text_in lower, text_in n))

  pub links_none : (lowers : List (Option ℕ))
      → ((i j : ℕ) → i < length lowers → get_or lowers i None ≡ Some j → f (text_in j, text_in i) ≡ false)
      → list_any f (links_from 0 lowers) ≡ false
  links_none lowers none =
      links_none_from 0 lowers
      (λ i j lt at. let is : i ≡ 0 + i = omega arith in subst (λ k. f (text_in j, text_in k) ≡ false) is
      (none i j lt at))

  pub links_some : (lowers : List (Option ℕ)) (i j : ℕ) → get_or lowers i None ≡ Some j
      → f (text_in j, text_in i) ≡ true → list_any f (links_from 0 lowers) ≡ true
  links_some lowers i j at here =
      links_some_from 0 lowers i j at
      (let is : i ≡ 0 + i = omega arith in subst (λ k. f (text_in j, text_in k) ≡ true) is here)

-- a lower column is before those that it determines
below_two : (i j : ℕ) → get_or (None ∷ Some 0 ∷ Some 1 ∷ []) i None ≡ Some j → j < i
below_two zero j e = absurd cc
below_two (suc zero) j e = let is : 0 ≡ j = cc in omega arith
below_two (suc (suc zero)) j e = let is : 1 ≡ j = cc in omega arith
below_two (suc (suc (suc i))) j e = absurd cc

below_month : (i j : ℕ) → get_or (None ∷ Some 0 ∷ Some 0 ∷ None ∷ []) i None ≡ Some j → j < i
below_month zero j e = absurd cc
below_month (suc zero) j e = let is : 0 ≡ j = cc in omega arith
below_month (suc (suc zero)) j e = let is : 0 ≡ j = cc in omega arith
below_month (suc (suc (suc zero))) j e = absurd cc
below_month (suc (suc (suc (suc i)))) j e = absurd cc

pub lower_below : (axis : Axis) (i j : ℕ) → lower_of axis i ≡ Some j → j < i
lower_below Customer i j e = below_two i j e
lower_below Supplier i j e = below_two i j e
lower_below Part i j e = below_two i j e
lower_below Date i j e = below_month i j e
