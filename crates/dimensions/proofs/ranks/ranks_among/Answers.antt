use Rattle.std.proofs.Common.{◌≡◌, sym, subst, true, length}
use Rattle.std.specs.List.{list_any}
use Rattle.std.specs.Str.{bytes_eq}
use Rattle.cube_model.specs.Ascending.{IsAscending}
use Rattle.dimensions.proofs.MemberLaws.{text_cmp}
use Rattle.dimensions.proofs.RanksLemmas.{codes_more, rank_more}
use Rattle.dimensions.proofs.RankLaws.{members_ascend, is_member}
use Rattle.dimensions.proofs.ranks.ranks_among.Goals as goal

pub rank_among-rank-requires-clause-ascending : goal.rank_among-rank-requires-clause-ascending
rank_among-rank-requires-clause-ascending c =
    subst (IsAscending text_cmp) (sym c.requires.members) (members_ascend c.args.texts.now)

pub rank_among-rank-requires-clause-among : goal.rank_among-rank-requires-clause-among
rank_among-rank-requires-clause-among c =
    subst (λ members. list_any (bytes_eq c.text-item.result) members ≡ true) (sym c.requires.members)
    (is_member c.args.texts.now c.loop-text.text-index c.text-item.result c.loop-text-test.true (sym c.text-item.is))

pub loop-text-preserved : goal.loop-text-preserved
loop-text-preserved c = (
  rank_more c.args.members.now c.args.texts.now c.loop-text.ranks.items c.push.new.self.items c.loop-text.text-index
      c.rank_among-rank.result c.text-item.result
      c.loop-text.invariant.0 c.loop-text-test.true (sym c.text-item.is) c.rank_among-rank.ensures.text
      c.in_ok-push.ensures.items,
  codes_more (length c.args.members.now) c.loop-text.ranks.items c.push.new.self.items c.rank_among-rank.result
      c.loop-text.invariant.1
      c.rank_among-rank.ensures.within c.in_ok-push.ensures.items,
)
