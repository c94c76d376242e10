use Rattle.dictionary.specs.Reading.{ReadsEach}
use Rattle.dictionary.proofs.reading.read_texts.Given as goal

abbrev pub invariant-loop : goal.invariant-loop
invariant-loop l = ReadsEach l.counter l.initial.cursor l.cursor l.initial.found l.found
