use Rattle.cube_model.specs.Validity.{RowsHaveShortTexts, date_rules}
use Rattle.sample_star.proofs.stars.dates.Given as goal

abbrev pub invariant-loop-row : goal.invariant-loop-row
invariant-loop-row l = RowsHaveShortTexts date_rules l.rows
