use Rattle.std.proofs.Common.{◌≡◌, ◌∙◌, sym, ap, refl, subst, inr, true≢false, ℕ, List, Option, Some, None, MatchOption}
use Rattle.std.proofs.Common.{◌^◌, ◌<◌}
use Rattle.dimensions.specs.Coded.{KeysAreDistinct}
use Rattle.dimensions.specs.Dimensions.{columns_from}
use Rattle.dimensions.proofs.MadeLaws.{made, refused_columns, refused_keys}
use Rattle.dimensions.proofs.dimension.Dimension.of_coded.Goals as goal
use Rattle.std.specs.List.{AllByRecursion}

absent : (A : Type 0) (B : List ℕ → Type 0) (o : Option (List ℕ)) → o ≡ None → MatchOption o A B → A
absent A B None e found = found
absent A B (Some keys) e found = absurd cc

present : (A : Type 0) (B : List ℕ → Type 0) (o : Option (List ℕ)) (keys : List ℕ) → o ≡ Some keys → MatchOption o A B
    → B keys
present A B None keys e found = absurd cc
present A B (Some other) keys e found = let same : other ≡ keys = cc in subst B same found

pub returns-then-not-has_proper_columns : goal.returns-then-not-has_proper_columns
returns-then-not-has_proper_columns c =
    inr (
      refl,
      refused_columns c.args.axis c.args.coded
          (λ proper. absurd (true≢false (sym (c.if-not-has_proper_columns.ensures.1 proper)))),
    )

pub returns-in_default : goal.returns-in_default
returns-in_default c =
    let bad = absent (KeysAreDistinct c.into_vec.result.items → ⊥)
    (λ keys. (keys ≡ c.into_vec.result.items) × KeysAreDistinct c.into_vec.result.items) c.in_ok-keys.field-0
    c.in_default.is c.in_ok-keys.ensures.ok in
    inr (
      refl,
      refused_keys c.args.axis c.args.coded
          (λ distinct. bad
          (subst KeysAreDistinct (sym (c.into_vec.ensures ∙ c.into_parts-keys.ensures.keys)) distinct)),
    )

pub returns : goal.returns
returns c =
    let found = present _ (λ keys. (keys ≡ c.into_vec.result.items) × KeysAreDistinct c.into_vec.result.items)
    c.in_ok-keys.field-0 c.in-Some.keys c.in-Some.is c.in_ok-keys.ensures.ok in
    made c.args.axis c.args.coded c.requires (c.has_proper_columns.ensures.0 c.if-not-has_proper_columns.false)
    (subst KeysAreDistinct (c.into_vec.ensures ∙ c.into_parts-keys.ensures.keys) found.1)
    (subst (AllByRecursion (λ key. key < 2 ^ 32)) (c.into_vec.ensures ∙ c.into_parts-keys.ensures.keys)
    c.in_ok-keys.ensures.fit)
    (record { keys = c.in-Some.keys; columns = c.in_ok-columns.columns })
    (found.0 ∙ c.into_vec.ensures ∙ c.into_parts-keys.ensures.keys)
    (c.in_ok-columns.ensures.ok
    ∙ ap (columns_from c.args.axis 0) (c.into_vec-2.ensures ∙ c.into_parts-keys.ensures.columns))
