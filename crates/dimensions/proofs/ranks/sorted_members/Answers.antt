use Rattle.std.proofs.Common.{◌∙◌, subst}
use Rattle.std.specs.List.Sorted.{IsPermutation}
use Rattle.std.specs.Str.{bytes_eq}
use Rattle.std.proofs.lemmas.List.Filters.{dedup_is}
use Rattle.dimensions.proofs.RankLaws.{dedup-members_of}
use Rattle.dimensions.proofs.ranks.sorted_members.Goals as goal

pub returns-clause-members : goal.returns-clause-members
returns-clause-members c =
    dedup_is bytes_eq c.sort_unstable.new.self.items c.dedup.new.self.items c.dedup.ensures.filtered
    ∙ dedup-members_of c.args.texts.now c.sort_unstable.new.self.items
    (subst (λ texts. IsPermutation texts c.sort_unstable.new.self.items) c.in_ok-members.ensures
    c.sort_unstable.ensures.permutation) c.sort_unstable.ensures.sorted
