use Rattle.std.proofs.Common.{Bor, List, ℕ, map, ap, ◌∙◌}
use Rattle.query_words.proofs.Refusals.{reads_aggregates}
use Rattle.query_words.proofs.aggregates.read_aggregates.Goals as goal

pub returns : goal.returns
returns c = reads_aggregates c.args.text.now _ c.aggregates_of.result (ap (λ (words : List (Bor (List ℕ))). map
    (λ word. word.now) words) c.as_slice.ensures.value ∙ c.in_ok-words.ensures) c.aggregates_of.ensures
