use Rattle.std.proofs.Common.{rules, refl, length}
use Rattle.std.specs.List.{flat_map}
use Rattle.std.proofs.lemmas.Result.{err_from_is_err_and}
use Rattle.ssb_reports.specs.Report.{header_text, line_text, count_text}
use Rattle.ssb_reports.proofs.Beginnings.{Writes-on, Writes-stop, Writes-stop_after}
use Rattle.ssb_reports.proofs.report.write_text.Goals as goal

pub returns-in_err-write_row : goal.returns-in_err-write_row
returns-in_err-write_row g c =
    Writes-stop _ _ _ _ (header_text c.args.query.now) _ _ (err_from_is_err_and _ c.from_residual.ensures.1)
    (search rules) refl

pub returns-in_err-write_lines : goal.returns-in_err-write_lines
returns-in_err-write_lines g c =
    Writes-stop_after _ (g.W.Write.contents c.write_row.new.out) _ _ _ (header_text c.args.query.now)
    (flat_map line_text (g.L.Lines.lines c.args.lines.now)) _ _
    (err_from_is_err_and _ c.from_residual-in_err-write_lines.ensures.1) (search rules) (search rules) refl

pub returns : goal.returns
returns g c =
    Writes-on _ (g.W.Write.contents c.write_row.new.out) _ _ (header_text c.args.query.now) _ _ (search rules)
    (Writes-on _ (g.W.Write.contents c.write_lines.new.out) _ _ (flat_map line_text (g.L.Lines.lines c.args.lines.now))
    (count_text (length (g.L.Lines.lines c.args.lines.now))) _ (search rules) (search rules) refl) refl
