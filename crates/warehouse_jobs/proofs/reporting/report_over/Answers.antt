use Rattle.std.proofs.lemmas.Result.{err_from_is_err_and}
use Rattle.std.proofs.Common.{refl, ap, Err}
use Rattle.ssb_reports.specs.Report.{report_of}
use Rattle.warehouse_jobs.proofs.Reports.{report-refused, report-written}
use Rattle.warehouse_jobs.proofs.reporting.report_over.Goals as goal

pub returns-in_err-found-clause-ends : goal.returns-in_err-found-clause-ends
returns-in_err-found-clause-ends g c w at k =
    report-refused (report_of c.args.query.now) g.D.Sectors w c.args.count c.args.query.now c.query_groups.new.self
    (g.W.Write.contents c.args.out.now) _ _
    (λ e. (c.in_err-found.ensures.reads.calls.device (ap (λ f. Err f) e)).failed)
    (λ no. (
      c.in_err-found.ensures.refused.causes _ refl no w at k,
      c.in_err-found.ensures.reads.stays (λ is. no (cc)) w at,
    ))
    (err_from_is_err_and _ c.from_residual.ensures.1)

pub returns-in_err-found-clause-leaves : goal.returns-in_err-found-clause-leaves
returns-in_err-found-clause-leaves g c = c.query_groups.ensures.reads.leaves

pub returns-in_err-found-clause-word : goal.returns-in_err-found-clause-word
returns-in_err-found-clause-word g c = c.query_groups.ensures.reads.calls.word

pub returns-clause-ends : goal.returns-clause-ends
returns-clause-ends g c w at k =
    report-written (report_of c.args.query.now) g.D.Sectors w c.args.count c.args.query.now c.query_groups.new.self
    (g.W.Write.contents c.args.out.now) (g.W.Write.contents c.write_report.new.out) c.in_ok-found.found
    c.write_report.result
    (c.in_ok-found.ensures.reads.stays (λ is. absurd (cc)) w at) (c.in_ok-found.ensures.answer w at k)
    (rw c.lines-lines.ensures at c.write_report.ensures)

pub returns-clause-leaves : goal.returns-clause-leaves
returns-clause-leaves g c = c.query_groups.ensures.reads.leaves

pub returns-clause-word : goal.returns-clause-word
returns-clause-word g c = c.query_groups.ensures.reads.calls.word
