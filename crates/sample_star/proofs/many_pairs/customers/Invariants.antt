use Rattle.cube_model.specs.Validity.{RowsHaveShortTexts, customer_rules}
use Rattle.sample_star.proofs.many_pairs.customers.Given as goal

abbrev pub invariant-loop-key : goal.invariant-loop-key
invariant-loop-key l = RowsHaveShortTexts customer_rules l.rows
