use Rattle.std.proofs.Common.{◌≡◌, ◌∙◌, sym, ap, map, List, ℕ, slice_get, Some}
use Rattle.std.specs.Option.{option_map}
use Rattle.std.proofs.lemmas.Option.{slice_get-map}
use Rattle.dictionary.proofs.CallerLemmas.{bytes_eq-same, code_again}
use Rattle.dictionary.proofs.dictionary.Dictionary.has_text_at.Goals as goal

pub returns-in-Some-clause-seen : goal.returns-in-Some-clause-seen
returns-in-Some-clause-seen c = λ same.
    let texts : List (List ℕ) = map (λ v. v.items) c.self.inside.texts.keys in
    let at : slice_get texts c.args.place ≡ Some c.as_slice.result.now =
    slice_get-map (λ v. v.items) c.self.inside.texts.keys c.args.place
    ∙ ap (option_map (λ v. v.items)) (sym c.in-Some.ensures.key)
    ∙ ap (λ t. Some t) (sym c.as_slice.ensures.value) in
    let is : c.as_slice.result.now ≡ c.args.text.now = bytes_eq-same _ _ (sym c.eq.ensures ∙ same) in
    rw (← c.self.view_is) (code_again texts c.args.place c.args.text.now c.self.invariant.2 (at ∙ ap (λ t. Some t) is))
