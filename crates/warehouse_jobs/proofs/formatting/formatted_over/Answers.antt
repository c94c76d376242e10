use Rattle.std.proofs.lemmas.Result.{err_from_is_err_and}
use Rattle.std.proofs.Common.{refl, ap, Err}
use Rattle.report_formats.specs.Fields.{formatted}
use Rattle.warehouse_jobs.proofs.Reports.{moded-formatted, moded-refused}
use Rattle.warehouse_jobs.proofs.formatting.formatted_over.Goals as goal

pub returns-in_err-found-clause-ends : goal.returns-in_err-found-clause-ends
returns-in_err-found-clause-ends g c w at k =
    moded-refused (formatted c.args.asked.now) g.D.Sectors w c.args.count c.args.asked.now.query
    c.answered.new.session (g.W.Write.contents c.args.out.now) _ _
    (λ e. (c.in_err-found.ensures.reads.calls.device (ap (λ f. Err f) e)).failed)
    (λ no. (
      c.in_err-found.ensures.refused.causes _ refl no w at k,
      c.in_err-found.ensures.reads.stays (λ is. no (cc)) w at,
    ))
    (err_from_is_err_and _ c.from_residual.ensures.1)

pub returns-in_err-found-clause-leaves : goal.returns-in_err-found-clause-leaves
returns-in_err-found-clause-leaves g c = c.answered.ensures.reads.leaves

pub returns-in_err-found-clause-word : goal.returns-in_err-found-clause-word
returns-in_err-found-clause-word g c = c.answered.ensures.reads.calls.word

pub returns-clause-ends : goal.returns-clause-ends
returns-clause-ends g c w at k =
    moded-formatted (formatted c.args.asked.now) g.D.Sectors w c.args.count c.args.asked.now.query
    c.answered.new.session (g.W.Write.contents c.args.out.now) (g.W.Write.contents c.write_formatted.new.out)
    c.in_ok-found.found c.write_formatted.result
    (c.in_ok-found.ensures.reads.stays (λ is. absurd (cc)) w at) (c.in_ok-found.ensures.answer w at k)
    (rw c.lines-lines.ensures at c.write_formatted.ensures.writes)

pub returns-clause-leaves : goal.returns-clause-leaves
returns-clause-leaves g c = c.answered.ensures.reads.leaves

pub returns-clause-word : goal.returns-clause-word
returns-clause-word g c = c.answered.ensures.reads.calls.word
