use Rattle.std.proofs.Common.{◌≡◌, false, true}
use Rattle.std.proofs.lemmas.Str.{is_utf8-from_IsUtf8}
use Rattle.std.specs.Str.{is_utf8}
use Rattle.report_formats.proofs.EscapesLemmas.{not_utf8}
use Rattle.report_formats.proofs.escapes.write_json_text.Goals as goal

pub returns-in-Ok : goal.returns-in-Ok
returns-in-Ok g c =
    let proper : is_utf8 c.args.text.now ≡ true = is_utf8-from_IsUtf8 c.args.text.now c.in-Ok.ensures.cases.1 in
    rw proper c.write_quoted.ensures

pub returns-in-Err : goal.returns-in-Err
returns-in-Err g c =
    let odd : is_utf8 c.args.text.now ≡ false = not_utf8 c.args.text.now c.in-Err.ensures.cases.0 in
    rw odd c.write_quoted-in-Err.ensures
