use Rattle.std.proofs.Common.{sym, subst}
use Rattle.sector_cache.specs.Kept.{Keeps}
use Rattle.sector_cache.proofs.KeptLemmas.{keeps_put}
use Rattle.sector_cache.proofs.kept.keep.Goals as goal

pub returns-in-Ok : goal.returns-in-Ok
returns-in-Ok c =
    let kept = c.args.kept.now in
    subst (λ k. Keeps c.args.i c.args.bytes.now kept.entries k.entries) (sym c.in-Ok.ensures.entries)
    (keeps_put kept c.args.i c.args.bytes.now)
