use Rattle.report_formats.proofs.OrderLawsLemmas.{answers_are_sorted}
use Rattle.cube_model.proofs.LawsLemmas.{answer_is_the_one}
use Rattle.report_formats.proofs.order_laws.answers_are_sorted.Goals as goal

pub returns : goal.returns
returns c = answers_are_sorted answer_is_the_one
