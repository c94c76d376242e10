use Rattle.std.proofs.Common.{◌∙◌, ◌++◌, ap, subst}
use Rattle.std.proofs.lemmas.Result.{err_from_is_err_and}
use Rattle.partial_reports.specs.Parts.{partial_query}
use Rattle.partial_reports.specs.Wide.{narrow_lines}
use Rattle.partial_reports.specs.Head.{head_text}
use Rattle.ssb_reports.specs.Report.{report_of}
use Rattle.report_merge.specs.Merging.{Part}
use Rattle.report_merge.specs.Written.{WritesOrKeeps}
use Rattle.report_merge.proofs.MergeLemmas.{lacks, nothing, part_written}
use Rattle.report_merge.proofs.merge.Merge.write_partial.Goals as goal

pub returns-in_err-head : goal.returns-in_err-head
returns-in_err-head g c = lacks _ _ _ _ (err_from_is_err_and _ c.from_residual.ensures.1) c.in_err-head.ensures.only

pub returns-in_err-lines : goal.returns-in_err-lines
returns-in_err-lines g c =
    nothing _ _ _ _ (err_from_is_err_and _ c.from_residual-in_err-lines.ensures.1) c.in_err-lines.ensures.only

pub returns : goal.returns
returns g c =
    let old = g.W.Write.contents c.args.out.now in
    let new = g.W.Write.contents c.write_text.new.out in
    let inside = c.self.inside in
    let part : Part =
    record {
      head = inside.head;
      digest = inside.digest;
      query = inside.query;
      answer = record {
        lines = narrow_lines inside.lines.items;
      };
    } in
    subst (λ (one : Part). WritesOrKeeps old new c.write_text.result
    (head_text one.head one.digest ++ report_of (partial_query one.query) one.answer)) c.self.view_is
    (part_written old new c.write_text.result part c.as_slice-3.result.now inside.partial
    (record { lines = c.in_ok-lines.lines })
    (c.as_slice-3.ensures.value ∙ c.in_ok-head.ensures.ok) c.self.invariant.partial_is
    (ap (λ all. record { lines = all }) (c.in_ok-lines.ensures.ok ∙ ap narrow_lines c.as_slice-2.ensures.value))
    c.write_text.ensures)
