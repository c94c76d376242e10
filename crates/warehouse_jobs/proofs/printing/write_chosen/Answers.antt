use Rattle.std.proofs.Common.{refl, codes}
use Rattle.std.proofs.lemmas.Result.{err_from_is_err_and}
use Rattle.lattice.specs.Names.{view_text}
use Rattle.ssb_reports.proofs.Beginnings.{Writes-on, Writes-stop}
use Rattle.warehouse_jobs.specs.Printed.{named_line}
use Rattle.warehouse_jobs.proofs.printing.write_chosen.Goals as goal

pub returns-in_err-write_view : goal.returns-in_err-write_view
returns-in_err-write_view g c =
    let one = c.args.one.now in
    Writes-stop _ _ _ _ (view_text c.args.ship_modes one.view) (named_line (codes " benefit ") one.benefit) _
    (err_from_is_err_and _ c.from_residual.ensures.1) c.in_err-write_view.ensures refl

pub returns : goal.returns
returns g c =
    let one = c.args.one.now in
    Writes-on _ _ _ _ (view_text c.args.ship_modes one.view) (named_line (codes " benefit ") one.benefit) _
    c.in_ok-write_view.ensures c.write_named.ensures refl
