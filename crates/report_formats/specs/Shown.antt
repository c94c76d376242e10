-- What arranged lines show of the lines that they are made of. Our own.
use Rattle.std.specs.Prelude.{List, take}
use Rattle.std.specs.Option.{option_map}
use Rattle.cube_model.specs.declared.answer.Line.{Line}
use Rattle.ssb_reports.specs.declared.lines.Lines.{Ghosts}
use Rattle.report_formats.specs.declared.arranged.Arranged.{Arranged}
use Rattle.report_formats.specs.Arranging.{lines_at}

-- the first of the lines at the places
abbrev pub shown : {L : Type 0} (g : Ghosts L) → Arranged L g → List Line
shown g arranged =
    take arranged.count (lines_at (option_map (λ places. places.items) arranged.places) (g.lines arranged.lines.now))
