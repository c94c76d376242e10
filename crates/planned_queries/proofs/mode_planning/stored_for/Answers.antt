use Rattle.std.proofs.Common.{arith}
use Rattle.std.proofs.lemmas.Fn.{filter_same}
use Rattle.planned_queries.proofs.mode_planning.stored_for.Goals as goal

pub returns : goal.returns
returns c =
    filter_same _ _ _ (λ x b f' k. grind (arith, k, c.looks_at_modes-looks.ensures)) _ _ c.retain.ensures.filtered
