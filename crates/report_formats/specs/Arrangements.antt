-- How the lines of a report are arranged. Our own.
use Rattle.std.specs.Prelude.{◌&&◌, if◌then◌else◌, length, slice_index_or}
use Rattle.std.specs.Option.{option_map}
use Rattle.cube_model.specs.declared.measure.Agg.TheVariants.{Count}
use Rattle.cube_model.specs.Proper.{is_average}
use Rattle.report_formats.specs.declared.arrangement.Arrangement.{Arrangement}
use Rattle.report_formats.specs.declared.arrangement.SortKey.{SortKey}
use Rattle.report_formats.specs.declared.arrangement.SortKey.TheVariants.{Column, Aggregate, Average}
use Rattle.report_formats.specs.declared.arrangement.Sorting.{Sorting}
use Rattle.report_formats.specs.declared.asked.Asked.{Asked}
use Rattle.report_formats.specs.Rows.{counts_averages}

-- what the lines are sorted by: where averages are written as their sum and their count, an average is made of these
abbrev pub sort_key_in : Asked → SortKey → SortKey
sort_key_in asked (Column column) = Column column
sort_key_in asked (Average sum count) = Average sum count
sort_key_in asked (Aggregate aggregate) =
    if counts_averages asked.layout && is_average (slice_index_or asked.aggregates aggregate Count)
    then Average aggregate (length asked.aggregates) else Aggregate aggregate

abbrev pub sorting_in : Asked → Sorting → Sorting
sorting_in asked sorting = record sorting { key = sort_key_in asked sorting.key }

-- the arrangement of the answer's lines: the report's, with what its lines are sorted by
abbrev pub arrangement_in : Asked → Arrangement
arrangement_in asked = record asked.arrangement { sorting = option_map (sorting_in asked) asked.arrangement.sorting }
