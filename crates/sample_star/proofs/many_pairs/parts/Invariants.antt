use Rattle.cube_model.specs.Validity.{RowsHaveShortTexts, part_rules}
use Rattle.sample_star.proofs.many_pairs.parts.Given as goal

abbrev pub invariant-loop-key : goal.invariant-loop-key
invariant-loop-key l = RowsHaveShortTexts part_rules l.rows
