use Rattle.std.proofs.Common.{◌∙◌, ◌++◌, ℕ, List, length, drop, replicate, ap}
use Rattle.std.proofs.lemmas.List.{drop-replicate}
use Rattle.object_store.proofs.extent.block.Goals as goal

pub returns : goal.returns
returns c =
    let rest = c.args.rest.now in
    ap (λ (l : List ℕ). l ++ drop (length rest) (replicate 512 0)) c.copy_from_slice.ensures.after
    ∙ ap (λ (l : List ℕ). rest ++ l) (drop-replicate {X = ℕ} (length rest) 512 0)
