-- The report that is asked for, and the query whose answer it has. Our own.
use Rattle.std.specs.Prelude.{◌&&◌, if◌then◌else◌, List, [], ◌∷◌, ◌++◌, map}
use Rattle.std.specs.List.{list_any}
use Rattle.cube_model.specs.declared.measure.Agg.{Agg}
use Rattle.cube_model.specs.declared.measure.Agg.TheVariants.{Count, Sum, Min, Max, Avg}
use Rattle.cube_model.specs.declared.query.Query.{Query}
use Rattle.cube_model.specs.Proper.{is_average}
use Rattle.report_formats.specs.Arranging.{no_arrangement}
use Rattle.mode_queries.specs.declared.query.ModeQuery.{ModeQuery}
use Rattle.report_formats.specs.declared.asked.Asked.{Asked}
use Rattle.report_formats.specs.declared.layout.Layout.{Layout}
use Rattle.report_formats.specs.Rows.{counts_averages}

-- the sum of an average
abbrev pub summed : Agg → Agg
summed (Avg measure) = Sum measure
summed Count = Count
summed (Sum measure) = Sum measure
summed (Min measure) = Min measure
summed (Max measure) = Max measure

-- sums in place of averages, and the count of rows after all
abbrev pub with_count : List Agg → List Agg
with_count aggregates = map summed aggregates ++ Count ∷ []

-- the query that is asked: where averages are written as their sum and their count, that for both
abbrev pub query_for : Layout → Query → Query
query_for layout query =
    if counts_averages layout && list_any is_average query.aggregates then record query
    { aggregates = with_count query.aggregates } else query

-- the same of a query that may look at ship modes
abbrev pub moded_query_for : Layout → ModeQuery → ModeQuery
moded_query_for layout asked = record asked { query = query_for layout asked.query }

-- the report of a query in a layout: its columns and aggregates are those of the query, and its lines those of the
-- answer as they are
abbrev pub asked_for : Layout → ModeQuery → Asked
asked_for layout asked = record {
  layout = layout;
  query = moded_query_for layout asked;
  aggregates = asked.query.aggregates;
  arrangement = no_arrangement;
}
