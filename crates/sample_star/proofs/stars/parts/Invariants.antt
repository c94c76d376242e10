use Rattle.cube_model.specs.Validity.{RowsHaveShortTexts, part_rules}
use Rattle.sample_star.proofs.stars.parts.Given as goal

abbrev pub invariant-loop-row : goal.invariant-loop-row
invariant-loop-row l = RowsHaveShortTexts part_rules l.rows
