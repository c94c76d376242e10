-- The selected rows of a batch in the one group of a query, all at once. Our own.
use Rattle.std.specs.Prelude.{◌≡◌, ℕ, ◌<◌, ◌==◌, ◌&&◌, Bool, true, false, cond, Option, Some, List, [], ◌∷◌, length}
use Rattle.std.specs.Prelude.{map, slice_index_or}
use Rattle.std.specs.List.{list_all}
use Rattle.std.specs.declared.alloc.Global.{Global}
use Rattle.std.specs.declared.vec.Vec.{Vec}
use Rattle.cube_model.specs.declared.measure.Agg.{Agg}
use Rattle.cube_model.specs.declared.query.Cond.{Cond}
use Rattle.cube_model.specs.declared.query.Cond.TheVariants.{OneOf, Between, Quantity, Discount}
use Rattle.cube_model.specs.declared.query.Query.{Query}
use Rattle.cube_model.specs.declared.rows.LineOrder.{LineOrder}
use Rattle.group_tallies.specs.Columns.{can_add, aggregate_size, tally_at}
use Rattle.group_tallies.specs.Tallies.{merged_tally, aggregated, tally_of}
use Rattle.group_tallies.specs.declared.tally.Tally.{Tally}

-- a condition is on a number of a fact row, and on no dimension
abbrev pub is_on_row : Cond → Bool
is_on_row (OneOf attr texts) = false
is_on_row (Between attr low high) = false
is_on_row (Quantity low high) = true
is_on_row (Discount low high) = true

-- a query has no column, and no condition on a dimension
abbrev pub has_one_group : Query → Bool
has_one_group query = (length query.columns == 0) && list_all is_on_row query.conditions

-- one slot for all rows
abbrev pub all_at : ℕ → List LineOrder → List (Option ℕ)
all_at slot rows = map (λ row. Some slot) rows

-- tallies at a slot, one for each aggregate, with rows merged in if the slot is theirs
abbrev pub tallies_with_rows : List Agg → List LineOrder → ℕ → ℕ → List Tally → List Tally
tallies_with_rows [] rows own slot tallies = []
tallies_with_rows (agg ∷ aggs) rows own slot [] = []
tallies_with_rows (agg ∷ aggs) rows own slot (tally ∷ tallies) =
    cond (own == slot) (merged_tally tally (tally_of (map (aggregated agg) rows))) tally
    ∷ tallies_with_rows aggs rows own slot tallies

-- each column can take the rows at a slot
abbrev pub HaveRoomAt : List Agg → List (Vec Tally Global) → ℕ → List LineOrder → Type 0
HaveRoomAt aggs columns slot rows = (k : ℕ) → k < length aggs → (agg : Agg) (column : Vec Tally Global)
    → can_add (tally_at (slice_index_or columns k column).items slot) (length rows)
    (aggregate_size (slice_index_or aggs k agg) rows) ≡ true
