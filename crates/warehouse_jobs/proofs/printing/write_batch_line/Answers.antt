use Rattle.std.proofs.Common.{rules, ◌++◌, refl, codes}
use Rattle.std.specs.Fmt.{decimal}
use Rattle.std.proofs.lemmas.Result.{err_from_is_err_and}
use Rattle.ssb_reports.proofs.Beginnings.{Writes-on, Writes-stop, Writes-stop_after}
use Rattle.warehouse_jobs.specs.Printed.{taken_text}
use Rattle.warehouse_jobs.proofs.printing.write_batch_line.Goals as goal

pub returns-in_err-write_bytes : goal.returns-in_err-write_bytes
returns-in_err-write_bytes g c =
    Writes-stop _ _ _ _ (codes "batch ") (decimal c.args.number ++ taken_text c.args.rows c.args.taken) _
    (err_from_is_err_and _ c.from_residual.ensures.1) c.in_err-write_bytes.ensures refl

pub returns-in_err-write_number : goal.returns-in_err-write_number
returns-in_err-write_number g c =
    Writes-stop_after _ _ _ _ _ (codes "batch ") (decimal c.args.number) (taken_text c.args.rows c.args.taken) _
    (err_from_is_err_and _ c.from_residual-in_err-write_number.ensures.1) c.in_ok-write_bytes.ensures
    (search rules) refl

pub returns-in-Added : goal.returns-in-Added
returns-in-Added g c =
    Writes-on _ _ _ _ (codes "batch ") (decimal c.args.number ++ taken_text c.args.rows c.args.taken) _
    c.in_ok-write_bytes.ensures
    (Writes-on _ (g.W.Write.contents c.write_number.new.out) _ _ (decimal c.args.number)
    (taken_text c.args.rows c.args.taken) _ (search rules) (rw c.in-Added.is c.write_named.ensures) refl) refl

pub returns-in-Skipped : goal.returns-in-Skipped
returns-in-Skipped g c =
    Writes-on _ _ _ _ (codes "batch ") (decimal c.args.number ++ taken_text c.args.rows c.args.taken) _
    c.in_ok-write_bytes.ensures
    (Writes-on _ (g.W.Write.contents c.write_number.new.out) _ _ (decimal c.args.number)
    (taken_text c.args.rows c.args.taken) _ (search rules) (rw c.in-Skipped.is c.write_bytes-in-Skipped.ensures)
    refl) refl
