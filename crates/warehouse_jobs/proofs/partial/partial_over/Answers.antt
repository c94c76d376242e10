use Rattle.std.proofs.lemmas.Result.{err_from_is_err_and}
use Rattle.std.proofs.Common.{refl, ◌≡◌, ◌∙◌, ◌++◌, ap, Err}
use Rattle.cube_model.specs.declared.rows.DimRows.{DimRows}
use Rattle.partial_reports.specs.Dimensions.{digest_of}
use Rattle.partial_reports.specs.Head.{head_text}
use Rattle.ssb_reports.specs.Report.{report_of}
use Rattle.warehouse_jobs.proofs.PartialLemmas.{partial-refused, partial-not_begun, partial-written}
use Rattle.warehouse_jobs.proofs.partial.partial_over.Goals as goal

pub returns-in_err-found-clause-ends : goal.returns-in_err-found-clause-ends
returns-in_err-found-clause-ends g c w at k =
    partial-refused g.D.Sectors w c.args.count c.args.asked.now c.query_groups.new.self
    (g.W.Write.contents c.args.out.now) _ _
    (λ e. (c.in_err-found.ensures.reads.calls.device (ap (λ f. Err f) e)).failed)
    (λ no. (
      c.in_err-found.ensures.refused.causes _ refl no w at k,
      c.in_err-found.ensures.reads.stays (λ is. no (cc)) w at,
    ))
    (err_from_is_err_and _ c.from_residual.ensures.1)

pub returns-in_err-found-clause-leaves : goal.returns-in_err-found-clause-leaves
returns-in_err-found-clause-leaves g c = c.query_groups.ensures.reads.leaves

pub returns-in_err-found-clause-word : goal.returns-in_err-found-clause-word
returns-in_err-found-clause-word g c = c.query_groups.ensures.reads.calls.word

pub returns-in_err-head-clause-ends : goal.returns-in_err-head-clause-ends
returns-in_err-head-clause-ends g c w at k =
    partial-not_begun g.D.Sectors w c.args.count c.args.asked.now c.query_groups.new.self
    (g.W.Write.contents c.args.out.now) c.in_ok-found.found _ _
    (c.in_ok-found.ensures.reads.stays (λ is. absurd (cc)) w at) (c.in_ok-found.ensures.answer w at k)
    (rw c.lines-lines.ensures at c.in_err-head.ensures.refused)
    (err_from_is_err_and _ c.from_residual-in_err-head.ensures.1)

pub returns-in_err-head-clause-leaves : goal.returns-in_err-head-clause-leaves
returns-in_err-head-clause-leaves g c = c.query_groups.ensures.reads.leaves

pub returns-in_err-head-clause-word : goal.returns-in_err-head-clause-word
returns-in_err-head-clause-word g c = c.query_groups.ensures.reads.calls.word

pub returns-clause-ends : goal.returns-clause-ends
returns-clause-ends g c w at k =
    let there = c.in_ok-found.ensures.reads.stays (λ is. absurd (cc)) w at in
    let rows : c.dims.result.now ≡ w.rows = c.dims.ensures w there k in
    partial-written g.D.Sectors w c.args.count c.args.asked.now c.query_groups.new.self
    (g.W.Write.contents c.args.out.now) (g.W.Write.contents c.write_partial.new.out) c.in_ok-found.found _
    c.write_partial.result
    there (c.in_ok-found.ensures.answer w at k) (rw c.lines-lines.ensures at c.in_ok-head.ensures.plain)
    (ap (λ l. l ++ report_of c.args.asked.now.query c.in_ok-found.found)
    (c.as_slice.ensures.value ∙ c.in_ok-head.ensures.ok
    ∙ ap (λ (d : DimRows). head_text c.args.asked.now.head (digest_of d)) rows))
    (rw c.lines-lines.ensures at c.write_partial.ensures)

pub returns-clause-leaves : goal.returns-clause-leaves
returns-clause-leaves g c = c.query_groups.ensures.reads.leaves

pub returns-clause-word : goal.returns-clause-word
returns-clause-word g c = c.query_groups.ensures.reads.calls.word
