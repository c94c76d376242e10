use Rattle.std.proofs.Common.{ap, ◌∙◌}
use Rattle.sector_cache.specs.Kept.{kept_at}
use Rattle.sector_cache.proofs.KeptLemmas.{kept-promoted}
use Rattle.sector_cache.proofs.kept.copy_kept.Goals as goal

pub returns-clause-same : goal.returns-clause-same
returns-clause-same c i = ap (λ k. kept_at k.entries i) c.promote.ensures.entries
    ∙ kept-promoted c.args.i c.args.kept.now.entries i
