-- Lines of an answer with a column of ship modes, while they are gathered by their keys. Our own.
use Rattle.std.specs.Prelude.{◌≡◌, ℕ, ◌<◌, cond, Some, None, List, map, length, slice_index_or}
use Rattle.std.specs.List.{list_any}
use Rattle.std.specs.Ordering.{eq_by_cmp}
use Rattle.std.specs.BTreeMap.{BTreeMap, get}
use Rattle.cube_model.specs.declared.answer.Line.{Line}
use Rattle.cube_model.specs.declared.answer.Member.{Member}
use Rattle.cube_model.specs.declared.answer.Value.{Value}
use Rattle.cube_model.specs.declared.query.Query.{Query}
use Rattle.cube_model.specs.declared.rows.DimRows.{DimRows}
use Rattle.cube_model.specs.declared.rows.LineOrder.{LineOrder}
use Rattle.cube_model.specs.Keys.{key_cmp}
use Rattle.cube_query.specs.Groups.{FoldState, RepresentsRows}
use Rattle.mode_queries.specs.Joining.{of_mode}

-- folds of a query, one for each ship mode, represent its rows
pub record FoldParts (dimensions : DimRows) (query : Query) (rows : List LineOrder) (modes : List (List ℕ))
    (folds : List FoldState) : Type 0 where
  pub counted : length folds ≡ length modes
  pub each : (i : ℕ) (mode : List ℕ) (fold : FoldState) → i < length modes
      → (slice_index_or folds i fold).query ≡ query
      × RepresentsRows dimensions (slice_index_or folds i fold) (of_mode (slice_index_or modes i mode) rows)

-- a map has the value of each of some keys, and nothing else
abbrev pub HasValues : (List Member → List Value) → List (List Member) → BTreeMap (List Member) (List Value) → Type 0
HasValues value keys lines = (key : List Member)
    → get key_cmp lines key ≡ cond (list_any (eq_by_cmp key_cmp key) keys) (Some (value key)) None

-- entries as lines
abbrev pub lines_of_entries : List (List Member × List Value) → List Line
lines_of_entries entries = map (λ entry. record { key = entry.0; values = entry.1 }) entries
