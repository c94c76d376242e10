use Rattle.std.proofs.Common.{◌≡◌, ◌≢◌, ◌↔◌, ◌∙◌, sym, refl, true≢false, ℕ, Bool, false, List, [], ◌∷◌, codes, is_some}
use Rattle.std.proofs.Common.{IsTrue, Option, Some, None}
use Rattle.std.specs.List.{AllByRecursion, list_any}
use Rattle.std.specs.Str.{bytes_eq}
use Rattle.dictionary.specs.Dictionary.{code_of}
use Rattle.dictionary.proofs.CallerLemmas.{absent, present, bytes_eq-apart, bytes_eq-refl, or_both, or_first, or_second}
use Rattle.dimensions.proofs.coded.names_all.Goals as goal

module _ (text : List ℕ) where
  none_there : (texts : List (List ℕ)) → AllByRecursion (λ other. other ≢ text) texts
      → list_any (bytes_eq text) texts ≡ false
  none_there [] all = refl
  none_there (other ∷ texts) all =
      or_both _ _ (bytes_eq-apart text other (λ same. all.0 (sym same))) (none_there texts all.1)

  all_differ : (texts : List (List ℕ)) → list_any (bytes_eq text) texts ≡ false
      → AllByRecursion (λ other. other ≢ text) texts
  all_differ [] none = tt
  all_differ (other ∷ texts) none = (
    λ same. absurd (true≢false (sym (bytes_eq-refl text) ∙ subst_text other same (or_first _ _ none))),
    all_differ texts (or_second _ _ none),
  )
    where
      subst_text : (o : List ℕ) → o ≡ text → bytes_eq text o ≡ false → bytes_eq text text ≡ false
      subst_text o same e = (λ i. bytes_eq text (sym same i)) ∙ e

  named : (texts : List (List ℕ)) (o : Option ℕ) (b : Bool) → o ≡ code_of texts text → b ≡ is_some o → IsTrue b
      ↔ (AllByRecursion (λ other. other ≢ text) texts → ⊥)
  named texts None b code is =
      let all = all_differ texts (absent texts text (sym code)) in
      (λ yes. absurd (true≢false (sym yes ∙ is)), λ no. absurd (no all))
  named texts (Some c) b code is =
      (λ yes all. absurd (true≢false (sym (present texts text c (sym code)) ∙ none_there texts all)), λ no. is)

pub returns : goal.returns
returns c = named (codes "ALL") c.args.texts.now.texts c.code.result c.is_some.result (c.code.ensures.value ∙ text_is)
    c.is_some.ensures
  where
    text_is : code_of c.args.texts.now.texts c.as_slice.result.now ≡ code_of c.args.texts.now.texts (codes "ALL")
    text_is = (λ i. code_of c.args.texts.now.texts (c.as_slice.ensures i))
