-- The names of what lines are sorted by. Our own.
use Rattle.std.specs.Prelude.{◌||◌, ℕ, Bool, List, Option, None, Some}
use Rattle.std.specs.List.{position}
use Rattle.std.specs.Str.{bytes_eq}
use Rattle.cube_model.specs.declared.measure.Agg.{Agg}
use Rattle.cube_model.specs.Names.{agg_name}
use Rattle.report_formats.specs.declared.arrangement.SortKey.{SortKey}
use Rattle.report_formats.specs.declared.arrangement.SortKey.TheVariants.{Column, Aggregate}
use Rattle.mode_queries.specs.Names.{agg_word, column_names}
use Rattle.mode_queries.specs.declared.query.ModeQuery.{ModeQuery}

-- a name is that of an aggregate: as the header of a report has it, such as sum(revenue), or as words spell it
abbrev pub is_named : List ℕ → Agg → Bool
is_named name agg = bytes_eq name (agg_name agg) || bytes_eq name (agg_word agg)

-- a column, or else an aggregate
abbrev pub key_among : Option ℕ → Option ℕ → Option SortKey
key_among (Some column) aggregate = Some (Column column)
key_among None (Some aggregate) = Some (Aggregate aggregate)
key_among None None = None

-- the first column of a name, or else the first aggregate
abbrev pub sort_key_named : ModeQuery → List ℕ → Option SortKey
sort_key_named asked name =
    key_among (position (bytes_eq name) (column_names asked)) (position (is_named name) asked.query.aggregates)
