use Rattle.std.proofs.Common.{◌∙◌, ◌/◌, length, List, ℕ, [], ap, get_or}
use Rattle.sector_device.proofs.CallerLemmas.{chunk_at}
use Rattle.sector_device.proofs.run.sector_at.Goals as goal

pub returns : goal.returns
returns c =
    ap (λ (l : List (List ℕ)). get_or l c.args.k []) c.as_chunks.ensures.front
    ∙ chunk_at (length c.args.bytes.now / 512) c.args.k c.args.bytes.now c.requires
