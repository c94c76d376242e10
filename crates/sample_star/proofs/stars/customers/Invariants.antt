use Rattle.cube_model.specs.Validity.{RowsHaveShortTexts, customer_rules}
use Rattle.sample_star.proofs.stars.customers.Given as goal

abbrev pub invariant-loop-row : goal.invariant-loop-row
invariant-loop-row l = RowsHaveShortTexts customer_rules l.rows
