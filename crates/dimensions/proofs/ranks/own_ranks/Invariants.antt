use Rattle.std.proofs.Common.{◌≡◌, take, length}
use Rattle.dimensions.specs.Ranked.{AreCodesBelow, texts_of_ranks}
use Rattle.dimensions.proofs.ranks.own_ranks.Given as goal

abbrev pub invariant-loop-rank : goal.invariant-loop-rank
invariant-loop-rank l = (texts_of_ranks l.texts l.ranks.items ≡ take l.rank l.texts)
    × AreCodesBelow (length l.texts) l.ranks.items
