use Rattle.std.proofs.Common.{map, take}
use Rattle.std.specs.List.{AllZip}
use Rattle.query_words.specs.Words.{SpellsAggregate}
use Rattle.query_words.proofs.aggregates.aggregates_of.Given as goal

abbrev pub invariant-loop-word : goal.invariant-loop-word
invariant-loop-word l = AllZip SpellsAggregate (map (λ word. word.now) (take l.word-index l.words)) l.aggregates
