use Rattle.std.proofs.Common.{◌≡◌, take, length}
use Rattle.dimensions.specs.Ranked.{AreCodesBelow, texts_of_ranks}
use Rattle.dimensions.proofs.ranks.ranks_among.Given as goal

abbrev pub invariant-loop-text : goal.invariant-loop-text
invariant-loop-text l = (texts_of_ranks l.members l.ranks.items ≡ take l.text-index l.texts)
    × AreCodesBelow (length l.members) l.ranks.items
