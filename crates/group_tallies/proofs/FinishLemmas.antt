-- Where the coarser groups begin, and where they end.
use Rattle.std.proofs.Common.{◌≡◌, ◌∙◌, sym, ap, ℕ, List, map, length}
use Rattle.std.specs.Prelude.{None}
use Rattle.std.specs.List.{filter, list_any}
use Rattle.std.specs.Ordering.{eq_by_cmp}
use Rattle.std.specs.declared.alloc.Global.{Global}
use Rattle.std.specs.declared.vec.Vec.{Vec}
use Rattle.cube_model.specs.Keys.{key_cmp, key_under}
use Rattle.cube_model.specs.Selection.{selected}
use Rattle.cube_model.specs.declared.answer.Member.{Member}
use Rattle.cube_model.specs.declared.query.Kind.TheVariants.{Plain}
use Rattle.cube_model.specs.declared.query.Query.{Query}
use Rattle.cube_model.specs.declared.rows.DimRows.{DimRows}
use Rattle.cube_model.specs.declared.rows.LineOrder.{LineOrder}
use Rattle.group_numbers.specs.Numbers.{group_key_at}
use Rattle.group_tallies.specs.Coarser.{rows_from, AreTalliedFrom}
use Rattle.group_tallies.specs.Columns.{tallies_at}
use Rattle.group_tallies.specs.Groups.{finest, groups_of, rows_at}
use Rattle.group_tallies.specs.FoldInvariant.{AreTallied}
use Rattle.group_tallies.specs.Tallies.{tallies_of}
use Rattle.group_tallies.specs.declared.tally.Tally.{Tally}
use Rattle.group_tallies.proofs.Stages.{finest_sets}

module _ (dimensions : DimRows) (query : Query) where
  start_rows : (key : List Member) (rows : List LineOrder)
      → rows_at dimensions (finest query) key rows ≡ rows_from dimensions query (length query.columns) key rows
  start_rows key rows =
      λ j. filter
      (λ row. list_any (eq_by_cmp key_cmp key)
      (map (key_under dimensions row query.columns) (sym (finest_sets query.kind query.columns) j)))
      (selected dimensions query.conditions rows)

  -- the groups by all columns, with the same columns of tallies
  pub start : (entries : List (ℕ × ℕ)) (columns copy : List (Vec Tally Global)) (rows : List LineOrder)
      → ((slot : ℕ) → tallies_at copy slot ≡ tallies_at columns slot)
      → AreTallied dimensions (finest query) entries columns rows
      → AreTalliedFrom dimensions query (length query.columns) entries copy rows
  start entries columns copy rows same tallied = record {
    each = λ number slot found. same slot ∙ tallied.each number slot found
        ∙ ap (tallies_of query.aggregates) (start_rows (group_key_at dimensions query.columns number) rows);
    others = λ key absent. sym (start_rows key rows) ∙ tallied.others key absent;
    fresh = λ slot h. same slot ∙ tallied.fresh slot h;
  }

  -- all groups of the query
  pub all_groups : (entries : List (ℕ × ℕ)) (columns : List (Vec Tally Global)) (rows : List LineOrder)
      → AreTalliedFrom dimensions query 0 entries columns rows → AreTallied dimensions query entries columns rows
  all_groups entries columns rows tallied =
      record { each = tallied.each; others = tallied.others; fresh = tallied.fresh }

  -- the groups of a plain query are those by all columns
  pub plain_groups : query.kind ≡ Plain → (rows : List LineOrder)
      → groups_of dimensions (finest query) rows ≡ groups_of dimensions query rows
  plain_groups plain rows =
      λ j. groups_of dimensions
      (record {
        kind = sym plain j;
        columns = query.columns;
        conditions = query.conditions;
        aggregates =
            query.aggregates;
        order = None;
      }) rows
