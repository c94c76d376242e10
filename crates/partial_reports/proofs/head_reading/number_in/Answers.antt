use Rattle.std.proofs.Common.{◌∙◌, sym, ap, subst, arith}
use Rattle.std.specs.Result.{result_ok}
use Rattle.std.specs.Str.{IsUtf8}
use Rattle.std.proofs.lemmas.Fmt.{IsAscii-decimal, parse-decimal}
use Rattle.std.proofs.lemmas.Str.{IsUtf8-from_ascii}
use Rattle.std.specs.Fmt.{decimal}
use Rattle.partial_reports.proofs.head_reading.number_in.Goals as goal

pub returns-in-Ok : goal.returns-in-Ok
returns-in-Ok c =
    λ number small is. c.ok.ensures.value
    ∙ ap result_ok
    (parse-decimal 32 number c.in-Ok.text.now c.parse.result small (omega arith) (c.in-Ok.ensures.cases.0 ∙ is)
    c.parse.ensures.value.0)

pub returns-in-Err : goal.returns-in-Err
returns-in-Err c =
    λ number small is. absurd
    (c.in-Err.ensures.cases.0
    (subst IsUtf8 (sym is) (IsUtf8-from_ascii (decimal number) (IsAscii-decimal number (omega arith)))))
