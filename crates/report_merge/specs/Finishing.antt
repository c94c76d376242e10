-- The answer that is made of a partial answer over all rows, for a layout. Our own.
use Rattle.std.specs.Prelude.{◌&&◌, if◌then◌else◌, List, [], ◌∷◌, ◌++◌, map, Bool}
use Rattle.std.specs.List.{list_any}
use Rattle.cube_model.specs.declared.answer.Answer.{Answer}
use Rattle.cube_model.specs.declared.answer.Line.{Line}
use Rattle.cube_model.specs.declared.answer.Value.{Value}
use Rattle.cube_model.specs.declared.query.Query.{Query}
use Rattle.cube_model.specs.Proper.{is_average}
use Rattle.partial_reports.specs.Parts.{finished}
use Rattle.report_formats.specs.declared.layout.Layout.{Layout}
use Rattle.report_formats.specs.Asked.{query_for}
use Rattle.report_formats.specs.Rows.{counts_averages}

-- the count, which is the first of a line's values
abbrev pub count_alone : List Value → List Value
count_alone [] = []
count_alone (count ∷ kept) = count ∷ []

-- a line with it once more after all values
abbrev pub recounted_line : Line → Line
recounted_line line = record { key = line.key; values = line.values ++ count_alone line.values }

abbrev pub recounted : Answer → Answer
recounted partial = record { lines = map recounted_line partial.lines }

-- the report in a layout has the counts of the averages that a query asks for
abbrev pub asks_for_counts : Layout → Query → Bool
asks_for_counts layout query = counts_averages layout && list_any is_average query.aggregates

-- the partial answer to what is asked for in a layout, of that to the query
abbrev pub partial_for : Layout → Query → Answer → Answer
partial_for layout query partial = if asks_for_counts layout query then recounted partial else partial

-- the answer to what is asked for in a layout
abbrev pub finished_for : Layout → Query → Answer → Answer
finished_for layout query partial = finished (query_for layout query) (partial_for layout query partial)
