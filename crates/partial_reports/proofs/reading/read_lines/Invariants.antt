use Rattle.std.proofs.Common.{◌≡◌, ◌++◌, List, length}
use Rattle.std.specs.List.{flat_map}
use Rattle.cube_model.specs.declared.answer.Line.{Line}
use Rattle.ssb_reports.specs.Report.{line_text}
use Rattle.partial_reports.specs.Reading.{AreLinesOf, SpellsPartLines}
use Rattle.partial_reports.proofs.ReadingLemmas.{LinesLeft}
use Rattle.partial_reports.proofs.reading.read_lines.Given as goal

abbrev pub invariant-loop-taken : goal.invariant-loop-taken
invariant-loop-taken l = record {
  are : AreLinesOf l.query l.lines;
  spelled : l.text ≡ flat_map line_text l.lines ++ l.left;
  left : (all : List Line) → SpellsPartLines l.query l.text all
      → LinesLeft l.query all l.lines l.left l._taken (length l.text);
}
