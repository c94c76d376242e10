-- What holds between two batches of an evaluation. Our own.
use Rattle.std.specs.Prelude.{◌≡◌, ◌⊎◌, ℕ, ◌+◌, ◌*◌, ◌≤◌, Bool, true, false, None, Some, Option, List, [], ◌∷◌, ◌++◌}
use Rattle.std.specs.Prelude.{length, Result, Ok, Err}
use Rattle.batch_loader.specs.Lines.{lines_of}
use Rattle.batch_loader.specs.Parts.{parts_of}
use Rattle.batch_loader.specs.Reading.{TakesBatch, RefusesBatch, IsFirstFault}
use Rattle.batch_loader.specs.Rows.{next_number}
use Rattle.batch_loader.specs.Tables.{lineorder_row}
use Rattle.batch_loader.specs.Unread.{Unread}
use Rattle.cube_model.specs.declared.fault.Fault.{Fault}
use Rattle.cube_model.specs.declared.fault.Fault.TheVariants.{Memory, Input}
use Rattle.cube_model.specs.declared.rows.DimRows.{DimRows}
use Rattle.cube_model.specs.declared.rows.LineOrder.{LineOrder}
use Rattle.cube_model.specs.Admission.{all_rows, moded_refusal, HaveKnownKeys}
use Rattle.cube_model.specs.Limits.{most_batch_rows, most_batches}
use Rattle.cube_model.specs.ShipModes.{modes_in}
use Rattle.group_tallies.specs.Limits.{AreFoldable}
use Rattle.batch_admission.specs.Accepted.{Accepted, HasAccepted}
use Rattle.batch_admission.specs.Found.{Found, cause_of, found_in}
use Rattle.batch_admission.specs.Totals.{totals_of}
use Rattle.dimension_tables.specs.Texts.{GivesUnlessFailed}
use Rattle.mode_folds.specs.States.{ModeFoldState, RepresentsModeRows}
use Rattle.mode_queries.specs.declared.query.ModeQuery.{ModeQuery}
use Rattle.ssb_eval.specs.Evaluation.{facts_of, facts_after, moded_answer_of}
use Rattle.ssb_eval.specs.ShipModes.{HasMet, HasMetRows, Met}

-- batches were accepted, and their rows were folded
pub record AreTaken (dimensions : DimRows) (asked : ModeQuery) (accepted : Accepted) (fold : ModeFoldState)
    (batches : List (List LineOrder)) : Type 0 where
  pub represents : HasAccepted accepted batches
  pub query_is : fold.asked ≡ asked
  pub folded : RepresentsModeRows dimensions fold (all_rows batches)
  pub few : length (all_rows batches) ≤ most_batch_rows * length batches
  pub foldable : AreFoldable dimensions (all_rows batches)

-- what is left of a text decides the rest
abbrev pub LeavesFacts : DimRows → List ℕ → List (List LineOrder) → ℕ → Option (List ℕ) → Type 0
LeavesFacts dimensions text batches number None = ⊥
LeavesFacts dimensions text batches number (Some left) =
    facts_of dimensions text ≡ facts_after dimensions batches (next_number number)
    (parts_of most_batch_rows (lines_of left))

-- some batches were taken, and others may follow
abbrev pub CanGoOn : DimRows → Accepted → ModeFoldState → Type 0
CanGoOn dimensions accepted fold = (batches : List (List LineOrder))
    × AreTaken dimensions fold.asked accepted fold batches

-- The first rows of a batch were looked at after those of accepted batches, and folded unless something was found in
-- them. The totals found are those of all these rows
pub record IsBegun (dimensions : DimRows) (asked : ModeQuery) (before earlier : List LineOrder) (found : Found)
    (fold : ModeFoldState) : Type 0 where
  pub found_is : found ≡ found_in dimensions (totals_of before) earlier
  pub query_is : fold.asked ≡ asked
  pub folded : cause_of found ≡ None → RepresentsModeRows dimensions fold (before ++ earlier)
  pub few : length before ≤ most_batch_rows * most_batches
  pub known : HaveKnownKeys dimensions before
  pub clean : cause_of (found_in dimensions (totals_of before) []) ≡ None

-- the rows of the next batch of a text were read, looked at, and folded unless something was found in them
pub record IsLookedAt (dimensions : DimRows) (asked : ModeQuery) (before : List LineOrder) (old new : Unread)
    (found : Found) (met : Met) (fold : ModeFoldState) (rows : List LineOrder) : Type 0 where
  pub read : TakesBatch lineorder_row most_batch_rows old new rows
  pub begun : IsBegun dimensions asked before rows found fold
  pub modes : HasMetRows found met before rows

-- they were; or memory was refused, a read failed, or one of its lines is refused
abbrev pub LooksAtNext : DimRows → ModeQuery → List LineOrder → Unread → Unread → Met → ModeFoldState
    → Result Found Fault → Type 0
LooksAtNext dimensions asked before old new met fold (Ok found) = (rows : List LineOrder)
    × IsLookedAt dimensions asked before old new found met fold rows
LooksAtNext dimensions asked before old new met fold (Err fault) = RefusesBatch lineorder_row most_batch_rows old fault

-- the next batch of a text, with a row or more, was read, accepted and folded
pub record FoldsNextBatch (dimensions : DimRows) (asked : ModeQuery) (batches : List (List LineOrder))
    (old new : Unread)
    (accepted : Accepted) (met : Met) (fold : ModeFoldState) (rows : List LineOrder) : Type 0 where
  pub some : 1 ≤ length rows
  pub read : TakesBatch lineorder_row most_batch_rows old new rows
  pub passes : moded_refusal dimensions batches (length batches + 1) rows ≡ None
  pub taken : AreTaken dimensions asked accepted fold (batches ++ rows ∷ [])
  pub modes : HasMet met (modes_in (all_rows (batches ++ rows ∷ []))) []

-- the next batch of a text, with a row or more, was read and is refused
pub record IsRefusedBatch (dimensions : DimRows) (batches : List (List LineOrder)) (old new : Unread) (fault : Fault)
    (rows : List LineOrder) : Type 0 where
  pub some : 1 ≤ length rows
  pub read : TakesBatch lineorder_row most_batch_rows old new rows
  pub refused : moded_refusal dimensions batches (length batches + 1) rows ≡ Some fault

-- The next batch was taken, or no row was left. Or memory was refused, a read failed, one of its lines is refused, or
-- it is refused itself
abbrev pub TakesNextBatch : DimRows → ModeQuery → List (List LineOrder) → Unread → Unread → Accepted → Met
    → ModeFoldState → Result Bool Fault → Type 0
TakesNextBatch dimensions asked batches old new accepted met fold (Ok true) = (rows : List LineOrder)
    × FoldsNextBatch dimensions asked batches old new accepted met fold rows
TakesNextBatch dimensions asked batches old new accepted met fold (Ok false) =
    TakesBatch lineorder_row most_batch_rows old new [] × AreTaken dimensions asked accepted fold batches
TakesNextBatch dimensions asked batches old new accepted met fold (Err fault) =
    (fault ≡ Memory)
    ⊎ ((fault ≡ Input)
    ⊎ (IsFirstFault lineorder_row most_batch_rows old.number old.left fault
    ⊎ ((rows : List LineOrder) × IsRefusedBatch dimensions batches old new fault rows)))

-- a fold that took all fact rows that it was to take: it represents some that may be folded
pub record TookAllRows (dimensions : DimRows) (asked : ModeQuery) (fold : ModeFoldState) : Type 0 where
  pub query_is : fold.asked ≡ asked
  pub rows : List LineOrder
  pub folded : RepresentsModeRows dimensions fold rows
  pub foldable : AreFoldable dimensions rows

-- All fact rows of a text were folded. Or memory was refused, a read failed, or the rows are refused
abbrev pub FoldsFacts : ModeQuery → DimRows → List ℕ → ModeFoldState → Result Unit Fault → Type 0
FoldsFacts asked dimensions text fold (Ok done) = (rows : List LineOrder) × (facts_of dimensions text ≡ Ok rows)
    × RepresentsModeRows dimensions fold rows
FoldsFacts asked dimensions text fold (Err fault) =
    GivesUnlessFailed (moded_answer_of asked dimensions text) (Err fault)
