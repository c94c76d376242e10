use Rattle.std.proofs.lemmas.Result.{err_from_is_err_and}
use Rattle.ssb_reports.proofs.Beginnings.{Writes-stop_after}
use Rattle.warehouse_jobs.specs.Printed.{place_text}
use Rattle.warehouse_jobs.proofs.Written.{next_text}
use Rattle.warehouse_jobs.proofs.printing.write_places.Goals as goal

pub returns-in_err-write_place : goal.returns-in_err-write_place
returns-in_err-write_place g c =
    Writes-stop_after _ _ _ _ _ _ _ _ _ (err_from_is_err_and _ c.from_residual.ensures.1) c.loop-place.invariant
    c.in_err-write_place.ensures
    (next_text place_text c.args.places.now c.loop-place.place-index _ c.loop-place-test.true)
