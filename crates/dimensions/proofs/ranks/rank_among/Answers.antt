use Rattle.dimensions.proofs.RankLaws.{found, found_text}
use Rattle.dimensions.proofs.ranks.rank_among.Goals as goal

pub unwrap-requires : goal.unwrap-requires
unwrap-requires c = found c.args.members.now c.args.text.now c.binary_search.result c.requires.ascending
    c.requires.among c.binary_search.ensures.position

pub returns-clause-text : goal.returns-clause-text
returns-clause-text c =
    found_text c.args.members.now c.args.text.now c.unwrap.result (rw c.unwrap.ensures at c.binary_search.ensures.ok)
