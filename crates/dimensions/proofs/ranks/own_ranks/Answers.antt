use Rattle.std.proofs.Common.{◌<◌, refl, arith, [], length, get_or}
use Rattle.std.proofs.lemmas.List.{get_or_default}
use Rattle.dimensions.proofs.RanksLemmas.{codes_more, rank_more}
use Rattle.dimensions.proofs.ranks.own_ranks.Goals as goal

pub loop-rank-preserved : goal.loop-rank-preserved
loop-rank-preserved c =
    let lt : c.loop-rank.rank < length c.args.texts.now = omega (arith, c.loop-rank-test.true) in (
      rank_more c.args.texts.now c.args.texts.now c.loop-rank.ranks.items c.push.new.self.items c.loop-rank.rank
          c.loop-rank.rank (get_or c.args.texts.now c.loop-rank.rank [])
          c.loop-rank.invariant.0 lt (get_or_default c.args.texts.now c.loop-rank.rank _ [] lt) refl
          c.in_ok-push.ensures.items,
      codes_more (length c.args.texts.now) c.loop-rank.ranks.items c.push.new.self.items c.loop-rank.rank
          c.loop-rank.invariant.1 lt c.in_ok-push.ensures.items,
    )
