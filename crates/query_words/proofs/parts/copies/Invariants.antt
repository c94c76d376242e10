use Rattle.std.proofs.Common.{◌≡◌, map, take}
use Rattle.query_words.proofs.parts.copies.Given as goal

abbrev pub invariant-loop-text : goal.invariant-loop-text
invariant-loop-text l = l.copies ≡ map (λ text. text.now) (take l.text-index l.texts)
