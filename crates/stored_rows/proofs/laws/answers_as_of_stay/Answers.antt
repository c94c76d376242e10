use Rattle.cube_model.specs.Admission.{all_rows}
use Rattle.std.specs.Prelude.{take}
use Rattle.warehouse_objects.proofs.CallerLemmas.{foldable}
use Rattle.stored_rows.proofs.Answers.{answers_kept}
use Rattle.stored_rows.proofs.laws.answers_as_of_stay.Goals as goal

pub returns : goal.returns
returns c = λ query as_of rows more batches order there. answers_kept query rows more (all_rows (take as_of batches))
    (foldable rows batches order as_of there).known
