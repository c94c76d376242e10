use Rattle.std.proofs.Common.{Err, Ok, ◌∙◌}
use Rattle.std.proofs.lemmas.Result.{err_from_is_err_and}
use Rattle.mode_folds.specs.Answered.{answered_over}
use Rattle.report_formats.specs.Fields.{formatted}
use Rattle.ssb_eval.specs.Evaluation.{moded_answer_of}
use Rattle.ssb_eval.proofs.Endings.{eval-is, eval-refused, evaluates-same, reports-stop, reports-unfinished}
use Rattle.ssb_eval.proofs.KeptLines.{keeps-nothing, keeps-other, keeps-refused}
use Rattle.ssb_eval.proofs.formatting.eval_formatted.Goals as goal

pub returns-in_err-found-clause-proper : goal.returns-in_err-found-clause-proper
returns-in_err-found-clause-proper g c = λ proper texts unread.
    reports-stop _ _ _ _ (err_from_is_err_and _ c.from_residual-in_err-found.ensures.1)
    (eval-refused (formatted c.args.asked.now) (moded_answer_of c.args.asked.now.query) texts _
    (evaluates-same texts (Err c.in_err-found.field-0.0) (c.into_ref.ensures ∙ c.in_ok-proper.ensures.ok)
    (c.in_err-found.ensures.evaluates texts unread)))

pub returns-in_err-write_formatted-clause-proper : goal.returns-in_err-write_formatted-clause-proper
returns-in_err-write_formatted-clause-proper g c = λ proper texts unread.
    let found = evaluates-same texts (Ok c.in_ok-found.found) (c.into_ref.ensures ∙ c.in_ok-proper.ensures.ok)
    (c.in_ok-found.ensures.evaluates texts unread) in
    reports-unfinished _ _ _ _ _ _ (err_from_is_err_and _ c.from_residual-in_err-write_formatted.ensures.1)
    (eval-is (formatted c.args.asked.now) (moded_answer_of c.args.asked.now.query) texts c.in_ok-found.found.dims
    (answered_over c.in_ok-found.found.dims c.in_ok-found.found.answered) found.0 found.1)
    (rw c.over.ensures at c.in_err-write_formatted.ensures.writes)

pub returns-clause-proper : goal.returns-clause-proper
returns-clause-proper g c = λ proper texts unread.
    let found = evaluates-same texts (Ok c.in_ok-found.found) (c.into_ref.ensures ∙ c.in_ok-proper.ensures.ok)
    (c.in_ok-found.ensures.evaluates texts unread) in (
      _,
      eval-is (formatted c.args.asked.now) (moded_answer_of c.args.asked.now.query) texts c.in_ok-found.found.dims
          (answered_over c.in_ok-found.found.dims c.in_ok-found.found.answered) found.0 found.1,
      (rw c.over.ensures at c.in_ok-write_formatted.ensures.writes),
    )

pub returns-clause-dims : goal.returns-clause-dims
returns-clause-dims g c = λ texts unread. (c.in_ok-found.ensures.evaluates texts unread).0

pub returns-in_err-proper-clause-cause : goal.returns-in_err-proper-clause-cause
returns-in_err-proper-clause-cause g c = λ fresh. keeps-nothing _ _ fresh

pub returns-in_err-found-clause-cause : goal.returns-in_err-found-clause-cause
returns-in_err-found-clause-cause g c = λ fresh.
    keeps-refused _ _ _ (err_from_is_err_and _ c.from_residual-in_err-found.ensures.1)
    (c.in_err-found.ensures.cause fresh)

pub returns-in_err-write_formatted-clause-cause : goal.returns-in_err-write_formatted-clause-cause
returns-in_err-write_formatted-clause-cause g c = λ fresh.
    keeps-other _ _ _ (c.in_ok-found.ensures.cause fresh) (c.in_ok-found.ensures.whole fresh)

pub returns-clause-cause : goal.returns-clause-cause
returns-clause-cause g c = λ fresh.
    keeps-other _ _ _ (c.in_ok-found.ensures.cause fresh) (c.in_ok-found.ensures.whole fresh)
