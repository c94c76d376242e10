use Rattle.std.proofs.Common.{rules, refl}
use Rattle.std.proofs.lemmas.Result.{err_from_is_err_and}
use Rattle.cube_model.specs.Names.{measure_name}
use Rattle.ssb_reports.proofs.Beginnings.{Writes-on, Writes-stop, Writes-stop_after}
use Rattle.ssb_reports.proofs.field.write_aggregate.Goals as goal

pub returns-in_err-write_bytes : goal.returns-in_err-write_bytes
returns-in_err-write_bytes g c =
    Writes-stop _ _ _ _ _ _ _ (err_from_is_err_and _ c.from_residual.ensures.1) c.in_err-write_bytes.ensures refl

pub returns-in_err-write_bytes-2 : goal.returns-in_err-write_bytes-2
returns-in_err-write_bytes-2 g c =
    Writes-stop_after _ _ _ _ _ _ (measure_name c.args.measure) _ _
    (err_from_is_err_and _ c.from_residual-in_err-write_bytes-2.ensures.1) c.in_ok-write_bytes.ensures
    (search rules) refl

pub returns : goal.returns
returns g c =
    Writes-on _ _ _ _ _ _ _ c.in_ok-write_bytes.ensures
    (Writes-on _ _ _ _ (measure_name c.args.measure) _ _ (search rules) c.write_bytes-3.ensures refl) refl
