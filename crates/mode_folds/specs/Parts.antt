-- The folds of the parts of fact rows. Our own.
use Rattle.std.specs.Prelude.{◌≡◌, ℕ, ◌<◌, ◌≤◌, true, List, ◌++◌, length, slice_index_or}
use Rattle.std.specs.List.{AllByRecursion}
use Rattle.std.specs.declared.alloc.Global.{Global}
use Rattle.std.specs.declared.vec.Vec.{Vec}
use Rattle.cube_model.specs.declared.query.Query.{Query}
use Rattle.cube_model.specs.declared.rows.DimRows.{DimRows}
use Rattle.cube_model.specs.declared.rows.LineOrder.{LineOrder}
use Rattle.cube_query.specs.Groups.{Begins, CanTake, FoldState, Takes}
use Rattle.dictionary.specs.Dictionary.{EachOnce}
use Rattle.mode_folds.specs.Joining.{FoldParts}
use Rattle.mode_queries.specs.Joining.{have_modes, of_mode}

-- all folds are of one query
abbrev pub HaveQuery : Query → List FoldState → Type 0
HaveQuery query folds = AllByRecursion (λ fold. fold.query ≡ query) folds

-- folds that begin were put after others, up to a number of them
pub record AreGrown (dimensions : DimRows) (query : Query) (count : ℕ) (old new : List FoldState) : Type 0 where
  pub more : List FoldState
  pub after : new ≡ old ++ more
  pub begin : AllByRecursion (Begins dimensions query) more
  pub counted : length old ≤ count → length new ≡ count

-- each fold takes the rows of its part
pub record TakeEach (dimensions : DimRows) (old : List FoldState) (parts : List (Vec LineOrder Global)) (new : List
    FoldState) : Type 0 where
  pub counted : length new ≡ length old
  pub each : (i : ℕ) (fold : FoldState) (part : Vec LineOrder Global) → i < length parts
      → Takes dimensions (slice_index_or old i fold) (slice_index_or parts i part).items (slice_index_or new i fold)

-- each can
abbrev pub CanTakeEach : DimRows → List FoldState → List (Vec LineOrder Global) → Type 0
CanTakeEach dimensions folds parts = (i : ℕ) (fold : FoldState) (part : Vec LineOrder Global) → i < length parts
    → CanTake dimensions (slice_index_or folds i fold) (slice_index_or parts i part).items

-- folds of a query, one for each of some ship modes, represent rows, whose ship modes are among these
pub record RepresentByMode (dimensions : DimRows) (query : Query) (rows : List LineOrder) (modes : List (List ℕ))
    (folds : List FoldState) : Type 0 where
  pub once : EachOnce modes
  pub known : have_modes modes rows ≡ true
  pub parts : FoldParts dimensions query rows modes folds

-- they represent the rows that they represented, with others after them
abbrev pub TakeByMode : DimRows → Query → List (List ℕ) → List FoldState → List LineOrder → List (List ℕ)
    → List FoldState → Type 0
TakeByMode dimensions query modes folds rows all taken = (so_far : List LineOrder)
    → RepresentByMode dimensions query so_far modes folds → RepresentByMode dimensions query (so_far ++ rows) all taken

-- all rows are of one ship mode
abbrev pub AreOfMode : List ℕ → List LineOrder → Type 0
AreOfMode mode rows = of_mode mode rows ≡ rows
