use Rattle.std.proofs.lemmas.Result.{err_from_is_err_and}
use Rattle.ssb_reports.proofs.Beginnings.{Writes-stop_after}
use Rattle.warehouse_jobs.specs.Printed.{chosen_line}
use Rattle.warehouse_jobs.proofs.Written.{next_text}
use Rattle.warehouse_jobs.proofs.printing.write_chosen_lines.Goals as goal

pub returns-in_err-write_chosen : goal.returns-in_err-write_chosen
returns-in_err-write_chosen g c =
    Writes-stop_after _ _ _ _ _ _ _ _ _ (err_from_is_err_and _ c.from_residual.ensures.1) c.loop-one.invariant
    c.in_err-write_chosen.ensures
    (next_text (chosen_line c.args.ship_modes) c.args.chosen.now c.loop-one.one-index _ c.loop-one-test.true)
