-- What a fold of a query that may look at ship modes has in hand: folds of the query without ship modes over parts of
-- the fact rows. Our own.
use Rattle.std.specs.Prelude.{◌≡◌, ◌||◌, ℕ, ◌<◌, Bool, true, false, is_none, is_some, List, [], ◌++◌, length}
use Rattle.std.specs.Prelude.{slice_index_or}
use Rattle.std.specs.List.{AllByRecursion}
use Rattle.cube_model.specs.declared.rows.DimRows.{DimRows}
use Rattle.cube_model.specs.declared.rows.LineOrder.{LineOrder}
use Rattle.cube_query.specs.Groups.{FoldState, IsOver, RepresentsRows}
use Rattle.group_tallies.specs.Limits.{AreFoldable}
use Rattle.dictionary.specs.Dictionary.{EachOnce}
use Rattle.mode_queries.specs.Joining.{has_coarser, have_modes, of_mode, passing}
use Rattle.mode_queries.specs.declared.query.ModeQuery.{ModeQuery}

-- the query; the fold of the rows together; the ship modes that were met, each with the fold of its rows
pub record ModeFoldState : Type 0 where
  pub asked : ModeQuery
  pub together : FoldState
  pub modes : List (List ℕ)
  pub folds : List FoldState

-- rows are folded together, unless the ship mode is a column that is grouped in each line
abbrev pub folds_together : ModeQuery → Bool
folds_together asked = is_none asked.place || has_coarser asked.query.kind

-- rows or none
abbrev pub rows_if : Bool → List LineOrder → List LineOrder
rows_if true rows = rows
rows_if false rows = []

-- the rows that are folded together, and those that are folded by ship modes
abbrev pub rows_together : ModeQuery → List LineOrder → List LineOrder
rows_together asked rows = rows_if (folds_together asked) (passing asked.conditions rows)

abbrev pub rows_by_mode : ModeQuery → List LineOrder → List LineOrder
rows_by_mode asked rows = rows_if (is_some asked.place) (passing asked.conditions rows)

-- A fold represents fact rows over dimensions: its folds represent the parts of them.
pub record RepresentsModeRows (dimensions : DimRows) (fold : ModeFoldState) (rows : List LineOrder) : Type 0 where
  pub together : RepresentsRows dimensions fold.together (rows_together fold.asked rows)
  pub counted : length fold.folds ≡ length fold.modes
  pub once : EachOnce fold.modes
  pub known : have_modes fold.modes (rows_by_mode fold.asked rows) ≡ true
  pub each : (i : ℕ) (mode : List ℕ) (part : FoldState) → i < length fold.modes
      → RepresentsRows dimensions (slice_index_or fold.folds i part)
      (of_mode (slice_index_or fold.modes i mode) (rows_by_mode fold.asked rows))

-- a fold that begins: it represents no fact row
pub record BeginsByModes (dimensions : DimRows) (asked : ModeQuery) (fold : ModeFoldState) : Type 0 where
  pub query_is : fold.asked ≡ asked
  pub represents : RepresentsModeRows dimensions fold []

-- the dimensions are those of a fold's beginning
pub record IsOverByModes (dimensions : DimRows) (fold : ModeFoldState) : Type 0 where
  pub together : IsOver dimensions fold.together
  pub each : AllByRecursion (IsOver dimensions) fold.folds

-- the fold represents the fact rows that it represented, with others after them
pub record TakesByModes (dimensions : DimRows) (old : ModeFoldState) (rows : List LineOrder) (new : ModeFoldState) :
    Type 0 where
  pub query : new.asked ≡ old.asked
  pub represents : (so_far : List LineOrder) → RepresentsModeRows dimensions old so_far
      → RepresentsModeRows dimensions new (so_far ++ rows)

-- the fold represents fact rows after which others may be added
abbrev pub CanTakeByModes : DimRows → ModeFoldState → List LineOrder → Type 0
CanTakeByModes dimensions fold rows = (so_far : List LineOrder)
    × (RepresentsModeRows dimensions fold so_far × AreFoldable dimensions (so_far ++ rows))

-- the fold represents fact rows that may be folded
abbrev pub IsFoldableByModes : DimRows → ModeFoldState → Type 0
IsFoldableByModes dimensions fold = (rows : List LineOrder)
    × (RepresentsModeRows dimensions fold rows × AreFoldable dimensions rows)

-- the fold of the rows together: where it represents its part of some rows, it then represents its part of these with
-- others after them
abbrev pub TakesTogether : DimRows → ModeQuery → FoldState → List LineOrder → FoldState → Type 0
TakesTogether dimensions asked old rows new = (so_far : List LineOrder)
    → RepresentsRows dimensions old (rows_together asked so_far)
    → RepresentsRows dimensions new (rows_together asked (so_far ++ rows))

-- what a fold has in hand, by its parts
abbrev pub fold_of : ModeQuery → FoldState → List (List ℕ) → List FoldState → ModeFoldState
fold_of asked together modes folds = record { asked = asked; together = together; modes = modes; folds = folds }
