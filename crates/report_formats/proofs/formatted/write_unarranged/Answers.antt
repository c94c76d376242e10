use Rattle.std.proofs.Common.{◌≡◌, ◌∙◌, false, sym}
use Rattle.ssb_reports.proofs.Beginnings.{Writes-flushed}
use Rattle.report_formats.specs.Fields.{is_plain_report}
use Rattle.report_formats.proofs.formatted.write_unarranged.Goals as goal

pub returns : goal.returns
returns g c =
    let laid_out : is_plain_report c.args.asked.now ≡ false = sym c.is_plain.ensures ∙ c.if-is_plain.false in
    rw laid_out (Writes-flushed _ _ _ _ _ c.in_ok-write_laid_out.ensures c.flush.ensures.bytes c.flush.ensures.fault)
