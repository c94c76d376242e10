use Rattle.query_words.proofs.NearnessLemmas.{IsLeast}
use Rattle.query_words.proofs.nearness.nearest.Given as goal

abbrev pub invariant-loop-name : goal.invariant-loop-name
invariant-loop-name l = IsLeast l.word l.names l.name-index l.least l.found
