use Rattle.std.proofs.Common.{◌<◌, subst}
use Rattle.std.proofs.lemmas.Result.{err_from_is_err_and}
use Rattle.cube_model.specs.Places.{row_count_of}
use Rattle.ssb_reports.proofs.Beginnings.{Writes-stop_after}
use Rattle.table_texts.proofs.DimensionLemmas.{Appends-row, around}
use Rattle.table_texts.proofs.dimension.write_rows.Goals as goal

pub returns-in_err-write_row : goal.returns-in_err-write_row
returns-in_err-write_row g c =
    let within : c.loop-place.place < row_count_of c.args.dims.now c.args.axis =
    subst (λ count. c.loop-place.place < count) c.row_count-place-end.ensures.count c.loop-place-test.true in
    Writes-stop_after _ _ _ _ _ _ _ _ _ (err_from_is_err_and _ c.from_residual.ensures.1) c.loop-place.invariant
    c.in_err-write_row.ensures
    (around c.args.dims.now c.args.axis c.loop-place.place within)

pub loop-place-preserved : goal.loop-place-preserved
loop-place-preserved g c =
    let within : c.loop-place.place < row_count_of c.args.dims.now c.args.axis =
    subst (λ count. c.loop-place.place < count) c.row_count-place-end.ensures.count c.loop-place-test.true in
    Appends-row c.args.dims.now c.args.axis c.loop-place.place _ _ _ within c.loop-place.invariant
    c.in_ok-write_row.ensures
