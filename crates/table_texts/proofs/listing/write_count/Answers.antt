use Rattle.std.proofs.Common.{codes, refl, rules}
use Rattle.std.specs.Fmt.{decimal}
use Rattle.std.proofs.lemmas.Result.{err_from_is_err_and}
use Rattle.ssb_reports.proofs.Beginnings.{Writes-on, Writes-stop, Writes-stop_after}
use Rattle.table_texts.proofs.listing.write_count.Goals as goal

pub returns-in_err-write_bytes : goal.returns-in_err-write_bytes
returns-in_err-write_bytes g c =
    Writes-stop _ _ _ _ (codes "members ") _ _ (err_from_is_err_and _ c.from_residual.ensures.1)
    c.in_err-write_bytes.ensures refl

pub returns-in_err-write_number : goal.returns-in_err-write_number
returns-in_err-write_number g c =
    Writes-stop_after _ _ _ _ _ (codes "members ") (decimal c.args.count) (codes "\n") _
    (err_from_is_err_and _ c.from_residual-in_err-write_number.ensures.1)
    c.in_ok-write_bytes.ensures c.in_err-write_number.ensures refl

pub returns : goal.returns
returns g c =
    Writes-on _ _ _ _ (codes "members ") _ _ c.in_ok-write_bytes.ensures
    (Writes-on _ _ _ _ (decimal c.args.count) (codes "\n") _ (search rules) c.write_bytes-2.ensures refl) refl
