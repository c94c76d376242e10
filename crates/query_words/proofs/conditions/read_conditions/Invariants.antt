use Rattle.std.proofs.Common.{map, take}
use Rattle.std.specs.List.{AllZip}
use Rattle.query_words.specs.Spelled.{SpellsFit}
use Rattle.query_words.proofs.conditions.read_conditions.Given as goal

abbrev pub invariant-loop-word : goal.invariant-loop-word
invariant-loop-word l = AllZip SpellsFit (map (λ word. word.now) (take l.word-index l.words)) l.conditions
