use Rattle.std.proofs.Common.{length, refl, rules}
use Rattle.std.specs.List.{flat_map}
use Rattle.std.proofs.lemmas.Result.{err_from_is_err_and}
use Rattle.ssb_reports.proofs.Beginnings.{Writes-on, Writes-stop, Writes-stop_after}
use Rattle.report_formats.specs.Fields.{footer_text, formatted_header, formatted_line}
use Rattle.report_formats.proofs.formatted.write_laid_out.Goals as goal

pub returns-in_err-write_header : goal.returns-in_err-write_header
returns-in_err-write_header g c =
    Writes-stop _ _ _ _ (formatted_header c.args.asked.now) _ _ (err_from_is_err_and _ c.from_residual.ensures.1)
    c.in_err-write_header.ensures refl

pub returns-in_err-write_lines : goal.returns-in_err-write_lines
returns-in_err-write_lines g c =
    Writes-stop_after _ (g.W.Write.contents c.write_header.new.out) _ _ _ (formatted_header c.args.asked.now)
    (flat_map (formatted_line c.args.asked.now) (g.L.Lines.lines c.args.lines.now)) _ _
    (err_from_is_err_and _ c.from_residual-in_err-write_lines.ensures.1) c.in_ok-write_header.ensures
    c.in_err-write_lines.ensures refl

pub returns : goal.returns
returns g c =
    let lines = g.L.Lines.lines c.args.lines.now in
    Writes-on _ (g.W.Write.contents c.write_header.new.out) _ _ (formatted_header c.args.asked.now) _ _
    c.in_ok-write_header.ensures
    (Writes-on _ (g.W.Write.contents c.write_lines.new.out) _ _ (flat_map (formatted_line c.args.asked.now) lines)
    (footer_text c.args.asked.now.layout.format (length lines)) _
    c.in_ok-write_lines.ensures (search rules) refl) refl
