use Rattle.std.proofs.Common.{◌∙◌, take, arith, Bor, List, ℕ}
use Rattle.std.proofs.lemmas.List.{length-map, length-take}
use Rattle.query_words.specs.ViewWords.{Names}
use Rattle.query_words.proofs.NamedViews.{zip_length}
use Rattle.query_words.proofs.view_reading.read_views.Goals as goal

pub returns-clause-few : goal.returns-clause-few
returns-clause-few c =
    let words = take c.loop-place.place c.args.words.now in
    let many = zip_length Names _ c.loop-place.views.items c.loop-place.invariant.named
    ∙ length-map words (λ (word : Bor (List ℕ)). word.now) ∙ length-take c.loop-place.place c.args.words.now in
    omega (arith, many)
