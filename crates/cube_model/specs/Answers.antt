use Rattle.std.specs.Prelude.{ℕ, List, map, take}
use Rattle.std.specs.List.{filter, flat_map, list_any}
use Rattle.std.specs.Ordering.{eq_by_cmp}
use Rattle.cube_model.specs.Ascending.{ascending}
use Rattle.cube_model.specs.declared.answer.Line.{Line}
use Rattle.cube_model.specs.declared.answer.Answer.{Answer}
use Rattle.cube_model.specs.declared.answer.Member.{Member}
use Rattle.cube_model.specs.declared.query.Query.{Query}
use Rattle.cube_model.specs.declared.rows.LineOrder.{LineOrder}
use Rattle.cube_model.specs.Admission.{all_rows}
use Rattle.cube_model.specs.Aggregates.{aggregate}
use Rattle.cube_model.specs.declared.rows.DimRows.{DimRows}
use Rattle.cube_model.specs.Keys.{keys_of, key_cmp}
use Rattle.cube_model.specs.Orders.{in_order}
use Rattle.cube_model.specs.Selection.{selected}

-- the keys that some fact row has, each once, ascending
abbrev pub keys_among : DimRows → Query → List LineOrder → List (List Member)
keys_among dimensions query rows = ascending key_cmp (flat_map (keys_of dimensions query) rows)

-- the fact rows of a key, under one or another grouping set
abbrev pub rows_of_key : DimRows → Query → List Member → List LineOrder → List LineOrder
rows_of_key dimensions query key rows =
    filter (λ row. list_any (eq_by_cmp key_cmp key) (keys_of dimensions query row)) rows

-- the line of a key: the aggregates over the rows of that key
abbrev pub line_of : DimRows → Query → List LineOrder → List Member → Line
line_of dimensions query rows key = record {
  key = key;
  values = map (λ agg. aggregate agg (rows_of_key dimensions query key rows)) query.aggregates;
}

-- the answer over fact rows: of those selected, a line for each key that one of them has, in the query's order
abbrev pub answer : Query → DimRows → List LineOrder → Answer
answer query dimensions rows =
    let chosen = selected dimensions query.conditions rows in
    record { lines = in_order query.order (map (line_of dimensions query chosen) (keys_among dimensions query chosen)) }

-- the answer as of the first n batches, put end to end
abbrev pub answer_as_of : Query → ℕ → DimRows → List (List LineOrder) → Answer
answer_as_of query n dimensions batches = answer query dimensions (all_rows (take n batches))
