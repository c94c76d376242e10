use Rattle.std.proofs.Common.{sym, subst}
use Rattle.sector_cache.specs.Kept.{Forgets}
use Rattle.sector_cache.proofs.KeptLemmas.{forgets_removed}
use Rattle.sector_cache.proofs.kept.forget.Goals as goal

pub returns-then-len-gt0 : goal.returns-then-len-gt0
returns-then-len-gt0 c =
    let kept = c.args.kept.now in
    subst (λ k. Forgets c.args.i kept.entries k.entries) (sym c.pop.ensures.entries)
    (forgets_removed kept c.args.i c.len.ensures.valid.0)
