use Rattle.std.proofs.Common.{Err, Ok, ◌∙◌, ◌++◌, ap}
use Rattle.ssb_reports.specs.Report.{report_of}
use Rattle.std.proofs.lemmas.Result.{err_from_is_err_and}
use Rattle.mode_folds.specs.Answered.{answered_over}
use Rattle.ssb_eval.proofs.Endings.{evaluates-plain, evaluates-same, reports-stop, reports-unwritten}
use Rattle.ssb_eval.proofs.KeptLines.{keeps-nothing, keeps-other, keeps-refused}
use Rattle.ssb_eval.proofs.PartialLemmas.{partial-refused, partial-not_plain, partial-is}
use Rattle.ssb_eval.proofs.partial.eval_partial.Goals as goal

pub returns-in_err-found-clause-proper : goal.returns-in_err-found-clause-proper
returns-in_err-found-clause-proper g c = λ proper texts unread.
    reports-stop _ _ _ _ (err_from_is_err_and _ c.from_residual-in_err-found.ensures.1)
    (partial-refused c.args.asked.now texts _
    (evaluates-plain c.args.asked.now.query texts (Err c.in_err-found.field-0.0)
    (evaluates-same texts (Err c.in_err-found.field-0.0) c.in_ok-proper.ensures.ok
    (c.in_err-found.ensures.evaluates texts unread))))

pub returns-in_err-head-clause-proper : goal.returns-in_err-head-clause-proper
returns-in_err-head-clause-proper g c = λ proper texts unread.
    let found = evaluates-plain c.args.asked.now.query texts (Ok c.in_ok-found.found)
    (evaluates-same texts (Ok c.in_ok-found.found) c.in_ok-proper.ensures.ok
    (c.in_ok-found.ensures.evaluates texts unread)) in
    reports-stop _ _ _ _ (err_from_is_err_and _ c.from_residual-in_err-head.ensures.1)
    (partial-not_plain c.args.asked.now texts c.in_ok-found.found.dims
    (answered_over c.in_ok-found.found.dims c.in_ok-found.found.answered) _
    found.0
    found.1
    (rw c.over.ensures at c.in_err-head.ensures.refused))

pub returns-in_err-write_partial-clause-proper : goal.returns-in_err-write_partial-clause-proper
returns-in_err-write_partial-clause-proper g c = λ proper texts unread.
    let found = evaluates-plain c.args.asked.now.query texts (Ok c.in_ok-found.found)
    (evaluates-same texts (Ok c.in_ok-found.found) c.in_ok-proper.ensures.ok
    (c.in_ok-found.ensures.evaluates texts unread)) in
    reports-unwritten _ _ _ _ _ _ (err_from_is_err_and _ c.from_residual-in_err-write_partial.ensures.1)
    (partial-is c.args.asked.now texts c.in_ok-found.found.dims
    (answered_over c.in_ok-found.found.dims c.in_ok-found.found.answered) _
    found.0
    found.1
    (rw c.over.ensures at c.in_ok-head.ensures.plain)
    (ap (λ l. l
    ++ report_of c.args.asked.now.query (answered_over c.in_ok-found.found.dims c.in_ok-found.found.answered))
    (c.as_slice.ensures.value ∙ c.in_ok-head.ensures.ok)))
    (rw c.over-2.ensures at c.in_err-write_partial.ensures)

pub returns-clause-proper : goal.returns-clause-proper
returns-clause-proper g c = λ proper texts unread.
    let found = evaluates-plain c.args.asked.now.query texts (Ok c.in_ok-found.found)
    (evaluates-same texts (Ok c.in_ok-found.found) c.in_ok-proper.ensures.ok
    (c.in_ok-found.ensures.evaluates texts unread)) in (
      _,
      (partial-is c.args.asked.now texts c.in_ok-found.found.dims
          (answered_over c.in_ok-found.found.dims c.in_ok-found.found.answered) _
          found.0
          found.1
          (rw c.over.ensures at c.in_ok-head.ensures.plain)
          (ap (λ l. l
          ++ report_of c.args.asked.now.query (answered_over c.in_ok-found.found.dims c.in_ok-found.found.answered))
          (c.as_slice.ensures.value ∙ c.in_ok-head.ensures.ok))),
      (rw c.over-2.ensures at c.in_ok-write_partial.ensures),
    )

pub returns-clause-dims : goal.returns-clause-dims
returns-clause-dims g c = λ texts unread. (c.in_ok-found.ensures.evaluates texts unread).0

pub returns-in_err-proper-clause-cause : goal.returns-in_err-proper-clause-cause
returns-in_err-proper-clause-cause g c = λ fresh. keeps-nothing _ _ fresh

pub returns-in_err-found-clause-cause : goal.returns-in_err-found-clause-cause
returns-in_err-found-clause-cause g c = λ fresh.
    keeps-refused _ _ _ (err_from_is_err_and _ c.from_residual-in_err-found.ensures.1)
    (c.in_err-found.ensures.cause fresh)

pub returns-in_err-head-clause-cause : goal.returns-in_err-head-clause-cause
returns-in_err-head-clause-cause g c = λ fresh.
    keeps-other _ _ _ (c.in_ok-found.ensures.cause fresh) (c.in_ok-found.ensures.whole fresh)

pub returns-in_err-write_partial-clause-cause : goal.returns-in_err-write_partial-clause-cause
returns-in_err-write_partial-clause-cause g c = λ fresh.
    keeps-other _ _ _ (c.in_ok-found.ensures.cause fresh) (c.in_ok-found.ensures.whole fresh)

pub returns-clause-cause : goal.returns-clause-cause
returns-clause-cause g c = λ fresh.
    keeps-other _ _ _ (c.in_ok-found.ensures.cause fresh) (c.in_ok-found.ensures.whole fresh)
