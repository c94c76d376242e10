-- Partial answers: what is kept of some of the fact rows, so that a query over all of them can be answered. A partial
-- answer is the answer to another query. Our own.
use Rattle.std.specs.Prelude.{ℤ, nat_abs, List, [], ◌∷◌, map, None}
use Rattle.cube_model.specs.declared.answer.Answer.{Answer}
use Rattle.cube_model.specs.declared.answer.Line.{Line}
use Rattle.cube_model.specs.declared.answer.Value.{Value}
use Rattle.cube_model.specs.declared.answer.Value.TheVariants.{Whole, Ratio}
use Rattle.cube_model.specs.declared.measure.Agg.{Agg}
use Rattle.cube_model.specs.declared.measure.Agg.TheVariants.{Count, Sum, Min, Max, Avg}
use Rattle.cube_model.specs.declared.query.Query.{Query}
use Rattle.cube_model.specs.Fractions.{fraction_of}
use Rattle.cube_model.specs.Orders.{in_order}

-- what is kept of an aggregate: of an average the sum
abbrev pub partial_agg : Agg → Agg
partial_agg Count = Count
partial_agg (Sum measure) = Sum measure
partial_agg (Min measure) = Min measure
partial_agg (Max measure) = Max measure
partial_agg (Avg measure) = Sum measure

-- the query whose answers are a query's partial answers: the count, then what is kept of each aggregate, in the order
-- of the keys
abbrev pub partial_query : Query → Query
partial_query query = record {
  kind = query.kind;
  columns = query.columns;
  conditions = query.conditions;
  aggregates = Count ∷ map partial_agg query.aggregates;
  order = None;
}

-- the number that is a value (of an average its numerator: no partial answer has one)
abbrev pub value_number : Value → ℤ
value_number (Whole number) = number
value_number (Ratio fraction) = fraction.numerator

-- an aggregate by the count and what was kept of it
abbrev pub finished_value : Agg → Value → Value → Value
finished_value Count count kept = kept
finished_value (Sum measure) count kept = kept
finished_value (Min measure) count kept = kept
finished_value (Max measure) count kept = kept
finished_value (Avg measure) count kept = Ratio (fraction_of (value_number kept) (nat_abs (value_number count)))

-- the same of each aggregate
abbrev pub finished_values : List Agg → Value → List Value → List Value
finished_values [] count kept = []
finished_values (agg ∷ aggs) count [] = []
finished_values (agg ∷ aggs) count (value ∷ kept) = finished_value agg count value ∷ finished_values aggs count kept

-- the values of a query's line, of those of a line of its partial answer
abbrev pub line_values : List Agg → List Value → List Value
line_values aggs [] = []
line_values aggs (count ∷ kept) = finished_values aggs count kept

abbrev pub finished_line : List Agg → Line → Line
finished_line aggs line = record { key = line.key; values = line_values aggs line.values }

-- the answer to a query, of its partial answer over all rows: orders come last
abbrev pub finished : Query → Answer → Answer
finished query partial = record { lines = in_order query.order (map (finished_line query.aggregates) partial.lines) }
