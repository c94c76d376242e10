use Rattle.std.proofs.lemmas.Result.{err_from_is_err_and}
use Rattle.ssb_reports.proofs.Beginnings.{Writes-stop_after}
use Rattle.ssb_reports.proofs.Rows.{next_text}
use Rattle.ssb_reports.proofs.writing.write_parts.Goals as goal

pub returns-in_err-write_bytes : goal.returns-in_err-write_bytes
returns-in_err-write_bytes g c =
    Writes-stop_after _ _ _ _ _ _ _ _ _ (err_from_is_err_and _ c.from_residual.ensures.1) c.loop-part.invariant
    c.in_err-write_bytes.ensures
    (next_text (λ part. part.now) c.args.parts.now c.loop-part.part-index _ c.loop-part-test.true)
