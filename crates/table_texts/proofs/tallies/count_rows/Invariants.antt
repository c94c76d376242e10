use Rattle.table_texts.specs.Tallies.{AreTallies}
use Rattle.table_texts.proofs.tallies.count_rows.Given as goal

abbrev pub invariant-loop-place : goal.invariant-loop-place
invariant-loop-place l = AreTallies l.dims l.attr l.place l.tallies
