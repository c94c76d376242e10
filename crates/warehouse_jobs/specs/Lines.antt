-- The lines of an answer that was found. Our own.
use Rattle.std.specs.Prelude.{List}
use Rattle.cube_model.specs.declared.answer.Line.{Line}
use Rattle.mode_folds.specs.Answered.{lines_in}
use Rattle.warehouse_jobs.specs.declared.reported.ReportedLines.{ReportedLines}
use Rattle.warehouse_jobs.specs.declared.reported.ReportedLines.TheVariants.{ByModes, Plain}

abbrev pub reported_lines : ReportedLines → List Line
reported_lines (Plain found) = found
reported_lines (ByModes found) = lines_in found
