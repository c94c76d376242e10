use Rattle.cube_model.specs.Validity.{RowsHaveShortTexts, supplier_rules}
use Rattle.sample_star.proofs.stars.suppliers.Given as goal

abbrev pub invariant-loop-row : goal.invariant-loop-row
invariant-loop-row l = RowsHaveShortTexts supplier_rules l.rows
