use Rattle.std.proofs.Common.{◌≡◌, ◌∙◌, sym, ap, map, slice_get, Some}
use Rattle.std.specs.Option.{option_map}
use Rattle.std.proofs.lemmas.Option.{slice_get-map}
use Rattle.dictionary.proofs.CallerLemmas.{code_again}
use Rattle.dictionary.proofs.dictionary.Dictionary.text.Goals as goal

pub returns-in-Some-clause-again : goal.returns-in-Some-clause-again
returns-in-Some-clause-again c =
    let at : slice_get (map (λ v. v.items) c.self.inside.texts.keys) c.args.code ≡ Some c.as_slice.result.now =
    slice_get-map (λ v. v.items) c.self.inside.texts.keys c.args.code
    ∙ ap (option_map (λ v. v.items)) (sym c.in-Some.ensures.key)
    ∙ ap (λ t. Some t) (sym c.as_slice.ensures.value) in
    rw (← c.self.view_is)
    (code_again (map (λ v. v.items) c.self.inside.texts.keys) c.args.code c.as_slice.result.now c.self.invariant.2
    at)
