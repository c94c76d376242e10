-- A count once more after all values is that of a query that asks for it.
use Rattle.std.proofs.Common.{◌≡◌, ◌∙◌, sym, ap, refl, Bool, true, false, cond, List, [], ◌∷◌, ◌++◌, map}
use Rattle.cube_model.specs.declared.answer.Answer.{Answer}
use Rattle.cube_model.specs.declared.answer.Line.{Line}
use Rattle.cube_model.specs.declared.answer.Value.{Value}
use Rattle.cube_model.specs.declared.measure.Agg.{Agg}
use Rattle.cube_model.specs.declared.measure.Agg.TheVariants.{Count, Sum, Min, Max, Avg}
use Rattle.cube_model.specs.declared.query.Query.{Query}
use Rattle.cube_model.specs.declared.rows.DimRows.{DimRows}
use Rattle.cube_model.specs.declared.rows.LineOrder.{LineOrder}
use Rattle.cube_model.specs.Aggregates.{aggregate}
use Rattle.cube_model.specs.Answers.{answer, keys_among, line_of, rows_of_key}
use Rattle.cube_model.specs.Selection.{selected}
use Rattle.partial_reports.specs.MergeLawful.{PartialAnswersSuffice}
use Rattle.partial_reports.specs.Parts.{finished, partial_agg, partial_query}
use Rattle.report_formats.specs.declared.layout.Layout.{Layout}
use Rattle.report_formats.specs.Asked.{query_for, with_count}
use Rattle.report_merge.specs.Finishing.{asks_for_counts, finished_for, recounted, recounted_line}
use Rattle.report_merge.specs.Lawful.{CountsAreAppended}

-- what is kept of sums in place of averages is what is kept of these
kept_values : (f : Agg → Value) (aggs : List Agg) → map f (map partial_agg aggs) ++ f Count
    ∷ [] ≡ map f (map partial_agg (with_count aggs))
kept_values f [] = refl
kept_values f (Count ∷ aggs) = ap (λ rest. f Count ∷ rest) (kept_values f aggs)
kept_values f (Sum measure ∷ aggs) = ap (λ rest. f (Sum measure) ∷ rest) (kept_values f aggs)
kept_values f (Min measure ∷ aggs) = ap (λ rest. f (Min measure) ∷ rest) (kept_values f aggs)
kept_values f (Max measure ∷ aggs) = ap (λ rest. f (Max measure) ∷ rest) (kept_values f aggs)
kept_values f (Avg measure ∷ aggs) = ap (λ rest. f (Sum measure) ∷ rest) (kept_values f aggs)

map_map : {X Y Z : Type 0} (g : Y → Z) (f : X → Y) (h : X → Z) → ((x : X) → g (f x) ≡ h x) → (xs : List X)
    → map g (map f xs) ≡ map h xs
map_map g f h each [] = refl
map_map g f h each (x ∷ xs) = λ i. each x i ∷ map_map g f h each xs i

-- a query that asks for sums in place of averages, and for the count after all
abbrev counted : Query → Query
counted query = record query { aggregates = with_count query.aggregates }

recounted-answer : (query : Query) (dimensions : DimRows) (rows : List LineOrder)
    → recounted (answer (partial_query query) dimensions rows) ≡ answer (partial_query (counted query)) dimensions rows
recounted-answer query dimensions rows =
    let chosen = selected dimensions query.conditions rows in
    let keys = keys_among dimensions query chosen in
    ap (λ all. record { lines = all })
    (map_map recounted_line (line_of dimensions (partial_query query) chosen)
    (line_of dimensions (partial_query (counted query)) chosen)
    (λ key. ap (λ values. record {
      key = key;
      values = aggregate Count (rows_of_key dimensions query key chosen) ∷ values;
    })
    (kept_values (λ agg. aggregate agg (rows_of_key dimensions query key chosen)) query.aggregates)) keys)

by_case : (query : Query) (dimensions : DimRows) (rows : List LineOrder) → PartialAnswersSuffice → (counts : Bool)
    → finished (cond counts (counted query) query)
    (cond counts (recounted (answer (partial_query query) dimensions rows))
    (answer (partial_query query) dimensions rows))
    ≡ answer (cond counts (counted query) query) dimensions rows
by_case query dimensions rows suffice true =
    ap (finished (counted query)) (recounted-answer query dimensions rows)
    ∙ sym (suffice (counted query) dimensions rows).1
by_case query dimensions rows suffice false = sym (suffice query dimensions rows).1

pub counts_are_appended : PartialAnswersSuffice → CountsAreAppended
counts_are_appended suffice layout query dimensions rows =
    by_case query dimensions rows suffice (asks_for_counts layout query)

abbrev answer_with : List Line → Answer
answer_with lines = record { lines = lines }

chosen_lines : (counts : Bool) (lines : List Line)
    → answer_with (cond counts (map recounted_line lines) lines) ≡ cond counts (recounted (answer_with lines))
    (answer_with lines)
chosen_lines true lines = refl
chosen_lines false lines = refl

-- what is finished of lines, with their counts where these are asked for
pub done : (layout : Layout) (query asked : Query) (counts : Bool) (lines all : List Line) (found : Answer)
    → asked ≡ query_for layout query
    → counts ≡ asks_for_counts layout query → all ≡ cond counts (map recounted_line lines) lines
    → found ≡ finished asked (record { lines = all })
    → found ≡ finished_for layout query (record { lines = lines })
done layout query asked counts lines all found asked_is counts_is all_is found_is =
    found_is ∙ (λ i. finished (asked_is i) (record { lines = all_is i }))
    ∙ ap (finished (query_for layout query)) (ap (λ b. answer_with (cond b (map recounted_line lines) lines)) counts_is
    ∙ chosen_lines (asks_for_counts layout query) lines)
