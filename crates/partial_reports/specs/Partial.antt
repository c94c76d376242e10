-- The text of a partial report: a head, and then the report of a partial answer. Our own.
use Rattle.std.specs.Prelude.{ℕ, List, ◌++◌}
use Rattle.cube_model.specs.declared.answer.Answer.{Answer}
use Rattle.cube_model.specs.declared.query.Query.{Query}
use Rattle.cube_model.specs.declared.rows.DimRows.{DimRows}
use Rattle.partial_reports.specs.Parts.{partial_query}
use Rattle.ssb_reports.specs.Report.{report_of}
use Rattle.partial_reports.specs.declared.asked.PartAsked.{PartAsked}
use Rattle.partial_reports.specs.declared.head.Head.{Head}
use Rattle.partial_reports.specs.Dimensions.{digest_of}
use Rattle.partial_reports.specs.Head.{head_text}

-- the partial report of a query that is asked for
abbrev pub part_asked : Head → Query → PartAsked
part_asked head query = record { head = head; query = partial_query query }

-- its text, of its partial answer over dimension rows
abbrev pub partial_text : PartAsked → DimRows → Answer → List ℕ
partial_text asked dimensions answer = head_text asked.head (digest_of dimensions) ++ report_of asked.query answer
