use Rattle.batch_loader.proofs.LineFieldsLemmas.{AreBarsUpTo}
use Rattle.batch_loader.proofs.line_fields.bars.bars_of_few.Given as goal

abbrev pub invariant-loop-place : goal.invariant-loop-place
invariant-loop-place l = AreBarsUpTo l.text l.first l.place l.bars
