use Rattle.std.proofs.Common.{rules, ◌++◌, refl, codes}
use Rattle.std.specs.Fmt.{decimal}
use Rattle.std.proofs.lemmas.Result.{err_from_is_err_and}
use Rattle.lattice.specs.Names.{view_text}
use Rattle.ssb_reports.proofs.Beginnings.{Writes-on, Writes-stop, Writes-stop_after}
use Rattle.warehouse_jobs.proofs.plan_lines.write_cells.Goals as goal

pub returns-in_err-write_view : goal.returns-in_err-write_view
returns-in_err-write_view g c =
    Writes-stop _ _ _ _ (view_text c.args.ship_modes c.args.view) (codes " mark " ++ decimal c.args.mark) _
    (err_from_is_err_and _ c.from_residual.ensures.1) c.in_err-write_view.ensures refl

pub returns-in_err-write_bytes : goal.returns-in_err-write_bytes
returns-in_err-write_bytes g c =
    Writes-stop_after _ _ _ _ _ (view_text c.args.ship_modes c.args.view) (codes " mark ") (decimal c.args.mark) _
    (err_from_is_err_and _ c.from_residual-in_err-write_bytes.ensures.1) c.in_ok-write_view.ensures
    c.in_err-write_bytes.ensures refl

pub returns : goal.returns
returns g c =
    Writes-on _ _ _ _ (view_text c.args.ship_modes c.args.view) (codes " mark " ++ decimal c.args.mark) _
    c.in_ok-write_view.ensures
    (Writes-on _ _ _ _ (codes " mark ") (decimal c.args.mark) _ c.in_ok-write_bytes.ensures (search rules) refl) refl
