use Rattle.std.proofs.Common.{◌≡◌, take}
use Rattle.dimensions.proofs.members.copied_texts.Given as goal

abbrev pub invariant-loop-code : goal.invariant-loop-code
invariant-loop-code l = l.texts.items ≡ take l.code l.dictionary.texts
