use Rattle.std.proofs.Common.{◌≡◌, ◌++◌, [], ◌∷◌, None, Option, List, ap, ◌∙◌}
use Rattle.std.proofs.lemmas.List.{replicate_more}
use Rattle.planned_queries.specs.Stepping.{RunningState}
use Rattle.warehouse.proofs.query_slots.QuerySlots.new.Goals as goal

pub loop-preserved : goal.loop-preserved
loop-preserved c =
    let more : c.push.new.self.items ≡ c.loop.queries.items ++ None ∷ [] = c.in_ok-push.ensures.items in
    more ∙ ap (λ (l : List (Option RunningState)). l ++ None ∷ []) c.loop.invariant ∙ replicate_more c.loop.counter None
