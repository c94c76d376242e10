-- The names of the columns of a query, as its reports have them, and aggregates as words spell them.
use Rattle.std.specs.Prelude.{ℕ, Option, Some, None, List, ◌++◌, codes, map}
use Rattle.std.specs.List.{insert}
use Rattle.cube_model.specs.declared.attr.Attr.{Attr}
use Rattle.cube_model.specs.declared.measure.Agg.{Agg}
use Rattle.cube_model.specs.declared.measure.Agg.TheVariants.{Count, Sum, Min, Max, Avg}
use Rattle.cube_model.specs.Names.{attr_name, measure_name}
use Rattle.mode_queries.specs.declared.query.ModeQuery.{ModeQuery}

-- the name of the ship mode
abbrev pub ship_mode_name : List ℕ
ship_mode_name = codes "lo_shipmode"

-- the names of columns, with that of the ship mode at its place, if it is one of them
abbrev pub names_with : List Attr → Option ℕ → List (List ℕ)
names_with columns None = map attr_name columns
names_with columns (Some place) = insert (map attr_name columns) place ship_mode_name

abbrev pub column_names : ModeQuery → List (List ℕ)
column_names asked = names_with asked.query.columns asked.place

-- count, or what is taken of a measure, a colon and the measure's name, such as sum:revenue
abbrev pub agg_word : Agg → List ℕ
agg_word Count = codes "count"
agg_word (Sum measure) = codes "sum:" ++ measure_name measure
agg_word (Min measure) = codes "min:" ++ measure_name measure
agg_word (Max measure) = codes "max:" ++ measure_name measure
agg_word (Avg measure) = codes "avg:" ++ measure_name measure
