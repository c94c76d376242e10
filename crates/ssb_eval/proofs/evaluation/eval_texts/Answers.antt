use Rattle.std.proofs.Common.{Err, Ok}
use Rattle.std.proofs.lemmas.Result.{err_from_is_err_and}
use Rattle.mode_folds.specs.Answered.{answered_over}
use Rattle.ssb_reports.specs.Report.{report_of}
use Rattle.ssb_eval.specs.Evaluation.{answer_of}
use Rattle.ssb_eval.proofs.Endings.{eval-is, eval-refused, evaluates-plain, evaluates-same, reports-memory}
use Rattle.ssb_eval.proofs.Endings.{reports-stop, reports-written}
use Rattle.ssb_eval.proofs.evaluation.eval_texts.Goals as goal

pub returns-in_err-tables-clause-proper : goal.returns-in_err-tables-clause-proper
returns-in_err-tables-clause-proper g c = λ proper texts have.
    reports-memory _ _ _ _ (err_from_is_err_and _ c.from_residual-in_err-tables.ensures.1) c.in_err-tables.ensures.err

pub returns-in_err-found-clause-proper : goal.returns-in_err-found-clause-proper
returns-in_err-found-clause-proper g c = λ proper texts have.
    reports-stop _ _ _ _ (err_from_is_err_and _ c.from_residual-in_err-found.ensures.1)
    (eval-refused (report_of c.args.query.now) (answer_of c.args.query.now) texts _
    (evaluates-plain c.args.query.now texts (Err c.in_err-found.field-0.0)
    (evaluates-same texts (Err c.in_err-found.field-0.0) c.in_ok-proper.ensures.ok
    (c.in_err-found.ensures.evaluates texts (c.in_ok-tables.ensures.unread texts have)))))

pub returns-clause-proper : goal.returns-clause-proper
returns-clause-proper g c = λ proper texts have.
    let found = evaluates-plain c.args.query.now texts (Ok c.in_ok-found.found)
    (evaluates-same texts (Ok c.in_ok-found.found) c.in_ok-proper.ensures.ok
    (c.in_ok-found.ensures.evaluates texts (c.in_ok-tables.ensures.unread texts have))) in
    reports-written _ _ _ _ _
    (eval-is (report_of c.args.query.now) (answer_of c.args.query.now) texts c.in_ok-found.found.dims
    (answered_over c.in_ok-found.found.dims c.in_ok-found.found.answered) found.0 found.1)
    (rw c.over.ensures at c.write_report.ensures)
