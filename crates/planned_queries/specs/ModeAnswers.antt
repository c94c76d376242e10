-- Answers over the first batches of a warehouse to queries that may look at ship modes. Our own.
use Rattle.std.specs.Prelude.{ℕ, List, take}
use Rattle.cube_model.specs.declared.answer.Answer.{Answer}
use Rattle.cube_model.specs.declared.rows.DimRows.{DimRows}
use Rattle.cube_model.specs.declared.rows.LineOrder.{LineOrder}
use Rattle.cube_model.specs.Admission.{all_rows}
use Rattle.mode_queries.specs.Answers.{moded_answer}
use Rattle.mode_queries.specs.declared.query.ModeQuery.{ModeQuery}

-- the answer as of the first n batches, put end to end
abbrev pub moded_answer_as_of : ModeQuery → ℕ → DimRows → List (List LineOrder) → Answer
moded_answer_as_of asked n dimensions batches = moded_answer asked dimensions (all_rows (take n batches))
