use Rattle.std.proofs.Common.{◌≡◌, ◌∙◌, ap, sym, subst}
use Rattle.std.proofs.lemmas.Result.{err_from_is_err_and}
use Rattle.partial_reports.specs.Wide.{narrow_lines}
use Rattle.partial_reports.specs.Finishing.{CanBeFinished, FinishRefuses}
use Rattle.mode_queries.specs.declared.query.ModeQuery.{ModeQuery}
use Rattle.report_formats.specs.declared.asked.Asked.{Asked}
use Rattle.report_formats.specs.Asked.{query_for}
use Rattle.report_merge.specs.Finishing.{finished_for, partial_for}
use Rattle.report_merge.specs.Merging.{Part}
use Rattle.report_merge.proofs.Counted.{done}
use Rattle.report_merge.proofs.MergeLemmas.{fine_memory, refused_for}
use Rattle.report_merge.proofs.merge.Merge.finish.Goals as goal

pub returns-clause-answer : goal.returns-clause-answer
returns-clause-answer c =
    let inside = c.self.inside in
    let asked_is = ap (λ (asked : Asked). asked.query.query) c.in_ok-asked.ensures.ok
    ∙ ap (λ (asked : ModeQuery). query_for c.args.layout asked.query) c.without_modes.ensures in
    subst (λ (part : Part). c.in_ok-answer.answer ≡ finished_for c.args.layout part.query part.answer) c.self.view_is
    (done c.args.layout inside.query c.in_ok-asked.asked.query.query c.asks_for_counts-counts.result
    (narrow_lines inside.lines.items) (narrow_lines c.in_ok-lines.lines.items)
    c.in_ok-answer.answer asked_is c.asks_for_counts-counts.ensures
    c.in_ok-lines.ensures.lines c.in_ok-answer.ensures.ok)

pub returns-in_err-answer-clause-complete : goal.returns-in_err-answer-clause-complete
returns-in_err-answer-clause-complete c = λ can.
    let inside = c.self.inside in
    let fine = subst (λ (part : Part). CanBeFinished part.answer) (sym c.self.view_is) can in
    let p = err_from_is_err_and c.from_residual-in_err-answer.result c.from_residual-in_err-answer.ensures.1 in
    rw p.1 (fine_memory c.in_ok-asked.asked.query.query.aggregates c.asks_for_counts-counts.result
    (narrow_lines inside.lines.items) (narrow_lines c.in_ok-lines.lines.items) p.0
    c.in_ok-lines.ensures.lines fine
    (subst (FinishRefuses c.in_ok-asked.asked.query.query.aggregates (narrow_lines c.in_ok-lines.lines.items)) (sym p.2)
    c.in_err-answer.ensures.refused))

pub returns-in_err-answer-clause-refused : goal.returns-in_err-answer-clause-refused
returns-in_err-answer-clause-refused c =
    let inside = c.self.inside in
    let asked_is = ap (λ (asked : Asked). asked.query.query) c.in_ok-asked.ensures.ok
    ∙ ap (λ (asked : ModeQuery). query_for c.args.layout asked.query) c.without_modes.ensures in
    let p = err_from_is_err_and c.from_residual-in_err-answer.result c.from_residual-in_err-answer.ensures.1 in
    rw p.1 (subst
    (λ (part : Part). FinishRefuses (query_for c.args.layout part.query).aggregates
    (partial_for c.args.layout part.query part.answer).lines p.0) c.self.view_is
    (refused_for c.args.layout inside.query c.in_ok-asked.asked.query.query c.asks_for_counts-counts.result
    (narrow_lines inside.lines.items) (narrow_lines c.in_ok-lines.lines.items) p.0
    asked_is c.asks_for_counts-counts.ensures c.in_ok-lines.ensures.lines
    (subst (FinishRefuses c.in_ok-asked.asked.query.query.aggregates (narrow_lines c.in_ok-lines.lines.items)) (sym p.2)
    c.in_err-answer.ensures.refused)))
