use Rattle.std.proofs.Common.{◌<◌, length, rules, refl}
use Rattle.std.proofs.lemmas.Result.{err_from_is_err_and}
use Rattle.ssb_reports.proofs.Beginnings.{Writes-on, Writes-stop, Writes-stop_after}
use Rattle.report_formats.specs.Escapes.{byte_text}
use Rattle.report_formats.proofs.EscapesLemmas.{plain_front, plain_then}
use Rattle.report_formats.proofs.escapes.+write_escaped.Goals as goal

pub returns-in_err-write_bytes : goal.returns-in_err-write_bytes
returns-in_err-write_bytes g t c =
    Writes-stop _ _ _ _ _ _ _ (err_from_is_err_and _ c.from_residual.ensures.1) c.in_err-write_bytes.ensures
    (plain_front (byte_text c.args.how) c.args.text.now c.plain_length-plain.result c.plain_length-plain.ensures.plain)

pub returns-in_err-write_byte : goal.returns-in_err-write_byte
returns-in_err-write_byte g t c =
    let within : c.plain_length-plain.result < length c.args.text.now = search rules in
    Writes-stop_after _ _ _ _ _ _ _ _ _ (err_from_is_err_and _ c.from_residual-in_err-write_byte.ensures.1)
    c.in_ok-write_bytes.ensures c.in_err-write_byte.ensures
    (plain_then (byte_text c.args.how) c.args.text.now c.plain_length-plain.result within
    c.plain_length-plain.ensures.plain)

pub returns : goal.returns
returns g t c =
    let within : c.plain_length-plain.result < length c.args.text.now = search rules in
    Writes-on _ _ _ _ _ _ _ c.in_ok-write_bytes.ensures
    (Writes-on _ _ _ _ _ _ _ c.in_ok-write_byte.ensures c.write_escaped.ensures refl)
    (plain_then (byte_text c.args.how) c.args.text.now c.plain_length-plain.result within
    c.plain_length-plain.ensures.plain)
