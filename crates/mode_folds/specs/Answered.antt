-- Answers that were found, as groups of which no line is made, or as lines. Our own.
use Rattle.std.specs.Prelude.{List}
use Rattle.cube_model.specs.declared.answer.Answer.{Answer}
use Rattle.cube_model.specs.declared.answer.Line.{Line}
use Rattle.cube_model.specs.declared.rows.DimRows.{DimRows}
use Rattle.group_tallies.specs.GroupLines.{AreGroupsOver, answer_over}
use Rattle.mode_folds.specs.declared.answered.Answered.{Answered}
use Rattle.mode_folds.specs.declared.answered.Answered.TheVariants.{Groups, Lines}
use Rattle.mode_folds.specs.declared.answered.AnsweredLines.{AnsweredLines}
use Rattle.mode_folds.specs.declared.answered.AnsweredLines.TheVariants as lines

-- groups are over the dimensions of their fold
abbrev pub IsAnsweredOver : DimRows → Answered → Type 0
IsAnsweredOver dimensions (Groups groups) = AreGroupsOver dimensions groups
IsAnsweredOver dimensions (Lines answer) = Unit {0}

-- the answer
abbrev pub answered_over : DimRows → Answered → Answer
answered_over dimensions (Groups groups) = answer_over dimensions groups
answered_over dimensions (Lines answer) = answer

-- its lines
abbrev pub lines_in : AnsweredLines → List Line
lines_in (lines.Groups found) = found
lines_in (lines.Lines answer) = answer.now.lines
