-- Some of the places of fact rows in place of all, for a query that selects none of the others. Our own.
use Rattle.std.specs.Prelude.{◌≡◌, ℕ, ◌<◌, Bool, false, List, length}
use Rattle.std.specs.List.{All, filter}
use Rattle.cube_model.specs.declared.query.Cond.{Cond}
use Rattle.cube_model.specs.declared.rows.DimRows.{DimRows}
use Rattle.cube_model.specs.declared.rows.LineOrder.{LineOrder}
use Rattle.cube_model.specs.Selection.{is_selected}
use Rattle.group_numbers.specs.Rows.{row_at}

-- places of fact rows
abbrev pub ArePlaces : List LineOrder → List ℕ → Type 0
ArePlaces rows places = All (λ place. place < length rows) places

-- some of the places of fact rows, in their order: by a test of rows that each selected row passes
pub record KeepPlaces (dimensions : DimRows) (conditions : List Cond) (rows : List LineOrder) (all some : List ℕ) : Type
    0 where
  pub test : LineOrder → Bool
  pub fails : (row : LineOrder) → test row ≡ false → is_selected dimensions conditions row ≡ false
  pub kept : some ≡ filter (λ place. test (row_at rows place)) all
