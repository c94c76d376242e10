use Rattle.std.proofs.Common.{◌<◌, length, rules}
use Rattle.std.proofs.lemmas.List.{get_or_default}
use Rattle.std.proofs.lemmas.Result.{err_from_is_err_and}
use Rattle.group_tallies.specs.GroupLines.{line_at}
use Rattle.ssb_reports.proofs.Beginnings.{Writes-stop_after}
use Rattle.ssb_reports.proofs.Rows.{flat_map-around}
use Rattle.report_formats.specs.Fields.{formatted_line}
use Rattle.report_formats.proofs.formatted.write_lines.Goals as goal

pub returns-in_err-write_line : goal.returns-in_err-write_line
returns-in_err-write_line g c =
    let lines = g.L.Lines.lines c.args.lines.now in
    let place = c.loop-place.place in
    let within : place < length lines = search rules in
    Writes-stop_after _ _ _ _ _ _ (formatted_line c.args.asked.now (line_at lines place)) _ _
    (err_from_is_err_and _ c.from_residual.ensures.1) c.loop-place.invariant c.in_err-write_line.ensures
    (flat_map-around (formatted_line c.args.asked.now) lines place (line_at lines place) within
    (get_or_default lines place _ _ within))
