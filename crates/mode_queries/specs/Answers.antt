-- The answer to a query one of whose columns may be the ship mode: as for any other column, a line for each key that a
-- chosen fact row has.
use Rattle.std.specs.Prelude.{List, map}
use Rattle.std.specs.List.{filter, flat_map, list_any}
use Rattle.std.specs.Ordering.{eq_by_cmp}
use Rattle.cube_model.specs.declared.answer.Answer.{Answer}
use Rattle.cube_model.specs.declared.answer.Line.{Line}
use Rattle.cube_model.specs.declared.answer.Member.{Member}
use Rattle.cube_model.specs.declared.rows.DimRows.{DimRows}
use Rattle.cube_model.specs.declared.rows.LineOrder.{LineOrder}
use Rattle.cube_model.specs.Aggregates.{aggregate}
use Rattle.cube_model.specs.Ascending.{ascending}
use Rattle.cube_model.specs.Keys.{key_cmp}
use Rattle.cube_model.specs.Orders.{in_order}
use Rattle.mode_queries.specs.Keys.{moded_keys_of}
use Rattle.mode_queries.specs.Selection.{chosen}
use Rattle.mode_queries.specs.declared.query.ModeQuery.{ModeQuery}

-- the keys that some fact row has, each once, ascending
abbrev pub moded_keys_among : DimRows → ModeQuery → List LineOrder → List (List Member)
moded_keys_among dimensions asked rows = ascending key_cmp (flat_map (moded_keys_of dimensions asked) rows)

-- the fact rows of a key, under one or another grouping set
abbrev pub rows_of_moded_key : DimRows → ModeQuery → List Member → List LineOrder → List LineOrder
rows_of_moded_key dimensions asked key rows =
    filter (λ row. list_any (eq_by_cmp key_cmp key) (moded_keys_of dimensions asked row)) rows

-- the line of a key: the aggregates over the rows of that key
abbrev pub moded_line_of : DimRows → ModeQuery → List LineOrder → List Member → Line
moded_line_of dimensions asked rows key = record {
  key = key;
  values = map (λ agg. aggregate agg (rows_of_moded_key dimensions asked key rows)) asked.query.aggregates;
}

-- the answer over fact rows: of those chosen, a line for each key that one of them has, in the query's order
abbrev pub moded_answer : ModeQuery → DimRows → List LineOrder → Answer
moded_answer asked dimensions rows =
    let of_all = chosen dimensions asked rows in
    record {
      lines = in_order asked.query.order
          (map (moded_line_of dimensions asked of_all) (moded_keys_among dimensions asked of_all));
    }
