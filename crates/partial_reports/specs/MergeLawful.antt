-- That answers over parts of the fact rows merge into the answer over all of them. Each is proved as the contract of a
-- function of its name.
use Rattle.std.specs.Prelude.{◌≡◌, ◌<◌, ◌^◌, false, None, List, [], ◌∷◌, ◌++◌, map, length}
use Rattle.std.specs.List.{AllByRecursion}
use Rattle.cube_model.specs.declared.answer.Answer.{Answer}
use Rattle.cube_model.specs.declared.answer.Line.{Line}
use Rattle.cube_model.specs.declared.answer.Member.{Member}
use Rattle.cube_model.specs.declared.measure.Agg.{Agg}
use Rattle.cube_model.specs.declared.query.Query.{Query}
use Rattle.cube_model.specs.declared.rows.DimRows.{DimRows}
use Rattle.cube_model.specs.declared.rows.LineOrder.{LineOrder}
use Rattle.cube_model.specs.Admission.{AreInRange, all_rows}
use Rattle.cube_model.specs.Answers.{answer}
use Rattle.cube_model.specs.Ascending.{IsAscending}
use Rattle.cube_model.specs.Lawful.{KeepAllRules}
use Rattle.cube_model.specs.Orders.{answer_cmp}
use Rattle.cube_model.specs.Proper.{is_average}
use Rattle.partial_reports.specs.Finishing.{CanBeFinished}
use Rattle.partial_reports.specs.Merges.{line_of_key, merged_answer, merged_all, merged_line_if_any, merged_lines}
use Rattle.partial_reports.specs.Parts.{partial_query, finished}
use Rattle.partial_reports.specs.Plain.{HaveUnbrokenTexts}
use Rattle.partial_reports.specs.Readable.{IsReadableAnswer, IsWholeNumber}
use Rattle.ssb_reports.specs.Report.{report_of}

-- a query whose answers are merged: it asks for no average, and for no order but that of the keys
pub record IsMergeable (query : Query) : Type 0 where
  pub whole : AllByRecursion (λ agg. is_average agg ≡ false) query.aggregates
  pub by_key : query.order ≡ None

-- its answer over rows put end to end is the merge of its answers
abbrev pub AnswersMerge : Type 0
AnswersMerge = (query : Query) (dimensions : DimRows) (rows others : List LineOrder) → IsMergeable query
    → answer query dimensions (rows ++ others) ≡ merged_answer query (answer query dimensions rows)
    (answer query dimensions others)

-- each query's partial answers are those of such a query, and the answer is made of the partial answer over the same
-- rows
abbrev pub PartialAnswersSuffice : Type 0
PartialAnswersSuffice = (query : Query) (dimensions : DimRows) (rows : List LineOrder)
    → IsMergeable (partial_query query)
    × (answer query dimensions rows ≡ finished query (answer (partial_query query) dimensions rows))

-- so the answer over any number of parts put end to end is made of the merge of the partial answers over each
abbrev pub PartsMakeTheAnswer : Type 0
PartsMakeTheAnswer = (query : Query) (dimensions : DimRows) (parts : List (List LineOrder))
    → answer query dimensions (all_rows parts)
    ≡ finished query (merged_all (partial_query query) (map (answer (partial_query query) dimensions) parts))

-- a report tells which answer it is of
abbrev pub ReportsReadBack : Type 0
ReportsReadBack = (query : Query) (one other : Answer) → IsReadableAnswer query one → IsReadableAnswer query other
    → report_of query one ≡ report_of query other → one ≡ other

-- partial answers over dimension rows that keep the rules and fact rows in range can be read back
abbrev pub PartialAnswersAreReadable : Type 0
PartialAnswersAreReadable = (query : Query) (dimensions : DimRows) (rows : List LineOrder)
    → KeepAllRules dimensions → HaveUnbrokenTexts dimensions → AreInRange rows → length rows < 2 ^ 63
    → length (answer (partial_query query) dimensions rows).lines < 2 ^ 63
    → IsReadableAnswer (partial_query query) (answer (partial_query query) dimensions rows)

-- each answer was read from the report of a part's partial answer: it can be read back, and has that report
abbrev pub AreReadFrom : Query → DimRows → List (List LineOrder) → List Answer → Type 0
AreReadFrom query dimensions [] [] = Unit {0}
AreReadFrom query dimensions [] (read ∷ reads) = ⊥
AreReadFrom query dimensions (part ∷ parts) [] = ⊥
AreReadFrom query dimensions (part ∷ parts) (read ∷ reads) =
    (IsReadableAnswer (partial_query query) read
    × (report_of (partial_query query) read
    ≡ report_of (partial_query query) (answer (partial_query query) dimensions part)))
    × AreReadFrom query dimensions parts reads

-- What is read from the reports of the partial answers over each part, merged and finished, has the report of the
-- whole: from bytes to bytes
abbrev pub MergedReportsAreTheReport : Type 0
MergedReportsAreTheReport = (query : Query) (dimensions : DimRows) (parts : List (List LineOrder)) (reads : List Answer)
    → AllByRecursion (λ part. IsReadableAnswer (partial_query query) (answer (partial_query query) dimensions part))
    parts
    → AreReadFrom query dimensions parts reads
    → report_of query (finished query (merged_all (partial_query query) reads))
    ≡ report_of query (answer query dimensions (all_rows parts))

-- two neighbouring parts may change places, and with them any two
abbrev pub NeighboursMayChangePlaces : Type 0
NeighboursMayChangePlaces = (query : Query) (dimensions : DimRows) (front one other back : List LineOrder)
    → answer query dimensions (front ++ (one ++ (other ++ back)))
    ≡ answer query dimensions (front ++ (other ++ (one ++ back)))

-- where the sums of all rows are in range, so that one warehouse takes them, each number of the merged partial answers
-- has 64 bits
abbrev pub MergedNumbersFit : Type 0
MergedNumbersFit = (query : Query) (dimensions : DimRows) (parts : List (List LineOrder))
    → AreInRange (all_rows parts) → length (all_rows parts) < 2 ^ 63
    → AllByRecursion (λ line. AllByRecursion IsWholeNumber line.values)
    (merged_all (partial_query query) (map (answer (partial_query query) dimensions) parts)).lines

-- and where they are, the partial answer over these rows can be finished
abbrev pub PartialAnswersCanBeFinished : Type 0
PartialAnswersCanBeFinished = (query : Query) (dimensions : DimRows) (rows : List LineOrder)
    → AreInRange rows → length rows < 2 ^ 63 → CanBeFinished (answer (partial_query query) dimensions rows)

-- answers merge in any grouping
abbrev pub MergingIsAssociative : Type 0
MergingIsAssociative = (query : Query) (dimensions : DimRows) (rows others more : List LineOrder) → IsMergeable query
    → let over : List LineOrder → Answer = answer query dimensions in
    merged_answer query (merged_answer query (over rows) (over others)) (over more)
    ≡ merged_answer query (over rows) (merged_answer query (over others) (over more))

-- Lines are the merge of two lists of lines: they are in the order of the keys, and the line of each key is the merge
-- of its lines.
pub record AreMergedLines (aggs : List Agg) (ones others lines : List Line) : Type 0 where
  pub in_order : IsAscending (answer_cmp None) lines
  pub by_key : (key : List Member)
      → line_of_key key lines ≡ merged_line_if_any aggs (line_of_key key ones) (line_of_key key others)

-- no other lines are the merge than those of the definition, however they were made
abbrev pub MergeIsTheOne : Type 0
MergeIsTheOne = (aggs : List Agg) (ones others lines : List Line) → AreMergedLines aggs ones others lines
    → lines ≡ merged_lines aggs ones others
