-- The two forms of an answer that was found. Our own.
use Rattle.cube_model.specs.declared.answer.Answer.{Answer}
use Rattle.warehouse_jobs.specs.declared.answer_form.AnswerForm.{AnswerForm}
use Rattle.warehouse_jobs.specs.declared.answer_form.AnswerForm.TheVariants.{ByModes, Plain}

-- the answer
abbrev pub answer_of_form : AnswerForm → Answer
answer_of_form (Plain found) = found
answer_of_form (ByModes found) = found
