use Rattle.std.proofs.Common.{◌≡◌, ◌++◌, [], ◌∷◌, replicate, ap, ◌∙◌, List, ℕ}
use Rattle.std.proofs.lemmas.List.{replicate-append-replicate}
use Rattle.sector_device.proofs.memory.zeros.Goals as goal

pub loop-preserved : goal.loop-preserved
loop-preserved c =
    let zero_sector : List ℕ = replicate 512 0 in
    let more : c.push.new.self.items ≡ c.loop.sectors.items ++ zero_sector ∷ [] = c.in_ok-push.ensures.items in
    more ∙ ap (λ (l : List (List ℕ)). l ++ zero_sector ∷ []) c.loop.invariant
    ∙ replicate-append-replicate c.loop.counter 1 zero_sector
