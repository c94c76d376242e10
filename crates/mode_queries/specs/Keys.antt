-- The keys of fact rows under a query one of whose columns may be the ship mode: the row's own text.
use Rattle.std.specs.Prelude.{ℕ, ◌+◌, Bool, true, false, Option, Some, None, List, length, map, slice_index_or}
use Rattle.std.specs.List.{insert, remove}
use Rattle.cube_model.specs.declared.answer.Member.{Member}
use Rattle.cube_model.specs.declared.answer.Member.TheVariants.{All, Text}
use Rattle.cube_model.specs.declared.attr.Attr.{Attr}
use Rattle.cube_model.specs.declared.query.Query.{Query}
use Rattle.cube_model.specs.declared.rows.DimRows.{DimRows}
use Rattle.cube_model.specs.declared.rows.LineOrder.{LineOrder}
use Rattle.cube_model.specs.Keys.{GroupingSet, key_under, keys_of}
use Rattle.mode_queries.specs.Groupings.{grouping_sets_of}
use Rattle.mode_queries.specs.declared.query.ModeQuery.{ModeQuery}

-- what a fact row has in the column of ship modes: its text where the column is grouped, ALL elsewhere
abbrev pub mode_member : Bool → LineOrder → Member
mode_member true row = Text row.shipmode
mode_member false row = All

-- the key of a fact row under a grouping set of all columns: that of the other columns under theirs, with what it has
-- in the column of ship modes at the place of that column
abbrev pub moded_key : DimRows → LineOrder → List Attr → ℕ → GroupingSet → List Member
moded_key dimensions row columns place grouping =
    insert (key_under dimensions row columns (remove grouping place)) place
    (mode_member (slice_index_or grouping place false) row)

-- the keys of a fact row, one for each grouping set, where the column of ship modes is at a place, if it is there
abbrev pub keys_at : DimRows → Query → Option ℕ → LineOrder → List (List Member)
keys_at dimensions query None row = keys_of dimensions query row
keys_at dimensions query (Some place) row = map (moded_key dimensions row query.columns place)
    (grouping_sets_of query.kind (length query.columns + 1))

abbrev pub moded_keys_of : DimRows → ModeQuery → LineOrder → List (List Member)
moded_keys_of dimensions asked row = keys_at dimensions asked.query asked.place row
