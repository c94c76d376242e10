use Rattle.std.proofs.lemmas.Result.{err_from_is_err_and}
use Rattle.cube_model.specs.declared.rows.LineOrder.{LineOrder}
use Rattle.ssb_reports.specs.Report.{row_text}
use Rattle.ssb_reports.proofs.Beginnings.{Writes-stop_after}
use Rattle.ssb_reports.proofs.Rows.{flat_map-around}
use Rattle.table_texts.specs.Texts.{fact_fields}
use Rattle.table_texts.proofs.Written.{Appends-next}
use Rattle.table_texts.proofs.facts.write_rows.Goals as goal

pub returns-in_err-write_row : goal.returns-in_err-write_row
returns-in_err-write_row g c =
    Writes-stop_after _ _ _ _ _ _ _ _ _ (err_from_is_err_and _ c.from_residual.ensures.1) c.loop-row.invariant
    c.in_err-write_row.ensures
    (flat_map-around (λ (row : LineOrder). row_text (fact_fields row)) c.args.rows.now c.loop-row.row-index
    c.row-item.result c.loop-row-test.true c.row-item.is)

pub loop-row-preserved : goal.loop-row-preserved
loop-row-preserved g c =
    Appends-next (λ (row : LineOrder). row_text (fact_fields row)) c.args.rows.now c.loop-row.row-index
    c.row-item.result _ _ _ c.loop-row-test.true c.row-item.is
    c.loop-row.invariant c.in_ok-write_row.ensures
