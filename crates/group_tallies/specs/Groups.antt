-- The groups of fact rows, by their keys. Our own.
use Rattle.std.specs.Prelude.{None, List, map}
use Rattle.cube_model.specs.declared.answer.Member.{Member}
use Rattle.cube_model.specs.declared.query.Kind.TheVariants.{Plain}
use Rattle.cube_model.specs.declared.query.Query.{Query}
use Rattle.cube_model.specs.declared.rows.DimRows.{DimRows}
use Rattle.cube_model.specs.declared.rows.LineOrder.{LineOrder}
use Rattle.cube_model.specs.Answers.{keys_among, rows_of_key}
use Rattle.cube_model.specs.Selection.{selected}
use Rattle.group_tallies.specs.Tallies.{tallies_of}
use Rattle.group_tallies.specs.declared.tally.Tally.{Tally}

-- the groups of fact rows: each key that a selected row has, ascending, with the tallies over the rows of that key
abbrev pub groups_of : DimRows → Query → List LineOrder → List (List Member × List Tally)
groups_of dimensions query rows =
    let chosen = selected dimensions query.conditions rows in
    map (λ key. (key, tallies_of query.aggregates (rows_of_key dimensions query key chosen)))
    (keys_among dimensions query chosen)

-- the query's finest grouping, by all columns
abbrev pub finest : Query → Query
finest query =
    record {
      kind = Plain;
      columns = query.columns;
      conditions = query.conditions;
      aggregates = query.aggregates;
      order = None;
    }

-- the selected rows of a key
abbrev pub rows_at : DimRows → Query → List Member → List LineOrder → List LineOrder
rows_at dimensions query key rows = rows_of_key dimensions query key (selected dimensions query.conditions rows)
