-- Lemmas of `facts`, by subject.
use Rattle.std.proofs.Common.{◌≡◌, ℕ, suc, ◌+◌, ◌<◌, ◌≤◌, List, [], ◌∷◌, ◌++◌, length, true, false, Option, Some, None}
use Rattle.std.proofs.Common.{is_some, Result, Err, refl, sym, ap, subst, ◌∙◌, arith, append_assoc, append-nil, ◌-◌}
use Rattle.std.proofs.Common.{Bool, inl, inr}
use Rattle.std.specs.Prelude.{slice_index_or}
use Rattle.std.specs.List.{AllByRecursion}
use Rattle.std.proofs.lemmas.List.{length-append, length_push}
use Rattle.batch_loader.specs.Reading.{RefusesBatch, TakesBatch}
use Rattle.batch_loader.specs.Tables.{lineorder_row}
use Rattle.batch_loader.specs.Unread.{Unread}
use Rattle.cube_model.specs.declared.fault.Fault.{Fault}
use Rattle.cube_model.specs.declared.rows.DimRows.{DimRows}
use Rattle.cube_model.specs.declared.rows.LineOrder.{LineOrder}
use Rattle.cube_model.specs.Admission.{all_rows, moded_refusal}
use Rattle.cube_model.specs.Limits.{most_batch_rows, most_batches}
use Rattle.batch_admission.specs.Accepted.{Accepted, HasAccepted}
use Rattle.batch_admission.specs.Found.{Found, cause_of, found_in}
use Rattle.batch_admission.specs.Totals.{totals_of}
use Rattle.batch_admission.proofs.CallerLemmas.{found-clean, found-earlier, known_both, passes}
use Rattle.cube_query.specs.Groups.{FoldState, IsOver}
use Rattle.mode_folds.specs.States.{CanTakeByModes, IsOverByModes, ModeFoldState, RepresentsModeRows, TakesByModes}
use Rattle.mode_queries.specs.declared.query.ModeQuery.{ModeQuery}
use Rattle.ssb_eval.specs.BatchLoop.{AreTaken, IsBegun, LooksAtNext, LeavesFacts, TakesNextBatch, FoldsNextBatch}
use Rattle.ssb_eval.specs.ShipModes.{HasMetRows, Met}
use Rattle.ssb_eval.proofs.Admitting.{early-before, plain}
use Rattle.cube_model.specs.declared.answer.Answer.{Answer}
use Rattle.dimension_tables.specs.Texts.{GivesUnlessFailed}
use Rattle.ssb_eval.specs.Evaluation.{moded_answer_of}
use Rattle.ssb_eval.proofs.Batches.{gives-unread, gives-refused}

-- ==== The pieces of a batch, one after the other.

-- no cause, by the test
pub no_cause : (cause : Option Fault) → is_some cause ≡ false → cause ≡ None
no_cause None none = refl
no_cause (Some fault) none = cc

-- a cause, by the test
pub some_cause : (cause : Option Fault) → is_some cause ≡ true → cause ≡ None → ⊥
some_cause None some e = cc
some_cause (Some fault) some e = cc

module _ (dimensions : DimRows) (asked : ModeQuery) (before earlier rows : List LineOrder) (found more : Found)
    (fold : ModeFoldState) (begun : IsBegun dimensions asked before earlier found fold)
    (looked : more ≡ found_in dimensions (totals_of before) (earlier ++ rows)) where
  -- what was found in all of them was found in none of the first
  clean_before : cause_of more ≡ None → cause_of found ≡ None
  clean_before none = ap cause_of begun.found_is
      ∙ found-earlier dimensions (totals_of before) earlier rows (ap cause_of (sym looked) ∙ none)

  -- nothing was found: they may be folded
  pub can_add : length (earlier ++ rows) ≤ most_batch_rows → cause_of more ≡ None
      → CanTakeByModes dimensions fold rows
  can_add few none =
      let clean = found-clean dimensions before (earlier ++ rows) (ap cause_of (sym looked) ∙ none) in
      let joined : (before ++ earlier) ++ rows ≡ before ++ (earlier ++ rows) = append_assoc before earlier rows in
      let longer : length (before ++ (earlier ++ rows)) ≡ length before + length (earlier ++ rows) =
      length-append before (earlier ++ rows) in (
        before ++ earlier,
        (
          begun.folded (clean_before none),
          rw joined (record {
            few = omega (arith, longer, begun.few, few);
            known = known_both dimensions 1 1 1 before (earlier ++ rows) begun.known clean.0;
            in_range = clean.1;
          }),
        ),
      )

  -- and then they were, unless something was found
  pub IsBegun-more : (next : ModeFoldState) → (cause_of more ≡ None → TakesByModes dimensions fold rows next)
      → next.asked ≡ fold.asked → IsBegun dimensions asked before (earlier ++ rows) more next
  IsBegun-more next takes same = record {
    found_is = looked;
    query_is = same ∙ begun.query_is;
    folded = λ none. subst (RepresentsModeRows dimensions next) (append_assoc before earlier rows)
        ((takes none).represents (before ++ earlier) (begun.folded (clean_before none)));
    few = begun.few;
    known = begun.known;
    clean = begun.clean;
  }

-- a batch of which nothing was taken yet
pub IsBegun-start : (dimensions : DimRows) (asked : ModeQuery) (accepted : Accepted) (fold : ModeFoldState)
    (batches : List (List LineOrder)) (found : Found) → AreTaken dimensions asked accepted fold batches
    → length batches ≤ most_batches → found ≡ found_in dimensions accepted.totals [] → cause_of found ≡ None
    → IsBegun dimensions asked (all_rows batches) [] found fold
IsBegun-start dimensions asked accepted fold batches found taken few is none =
    let found_is = is ∙ ap (λ totals. found_in dimensions totals []) taken.represents.totals in
    record {
      found_is = found_is;
      query_is = taken.query_is;
      folded = λ none. subst (RepresentsModeRows dimensions fold) (sym (append-nil (all_rows batches))) taken.folded;
      few = omega (arith, taken.few, few);
      known = taken.foldable.known;
      clean = ap cause_of (sym found_is) ∙ none;
    }

-- where it has no row, all is as before
pub AreTaken-none : (dimensions : DimRows) (asked : ModeQuery) (accepted : Accepted) (fold next : ModeFoldState)
    (batches : List (List LineOrder)) (rows : List LineOrder) (found : Found)
    → AreTaken dimensions asked accepted fold batches
    → IsBegun dimensions asked (all_rows batches) rows found next → found.row_count ≡ 0
    → AreTaken dimensions asked accepted next batches
AreTaken-none dimensions asked accepted fold next batches (row ∷ rows) found taken begun none =
    absurd (omega (arith, none, ap (λ some. some.row_count) begun.found_is))
AreTaken-none dimensions asked accepted fold next batches [] found taken begun none = record {
  represents = taken.represents;
  query_is = begun.query_is;
  folded = subst (RepresentsModeRows dimensions next) (append-nil (all_rows batches))
      (begun.folded (ap cause_of begun.found_is ∙ begun.clean));
  few = taken.few;
  foldable = taken.foldable;
}

-- as many rows as were counted
pub counted : (dimensions : DimRows) (asked : ModeQuery) (before rows : List LineOrder) (found : Found)
    (fold : ModeFoldState) → IsBegun dimensions asked before rows found fold → found.row_count ≡ length rows
counted dimensions asked before rows found fold begun = ap (λ some. some.row_count) begun.found_is

-- what was found, after the batches that are there
pub found-after : (dimensions : DimRows) (asked : ModeQuery) (accepted : Accepted) (batches : List (List LineOrder))
    (rows : List LineOrder) (found : Found) (fold : ModeFoldState) → HasAccepted accepted batches
    → IsBegun dimensions asked (all_rows batches) rows found fold → found ≡ found_in dimensions accepted.totals rows
found-after dimensions asked accepted batches rows found fold represents begun = begun.found_is
    ∙ ap (λ totals. found_in dimensions totals rows) (sym represents.totals)

-- a fold that represents fact rows is over the dimensions
all_over : (dimensions : DimRows) (folds : List FoldState)
    → ((i : ℕ) (fold : FoldState) → i < length folds → IsOver dimensions (slice_index_or folds i fold))
    → AllByRecursion (IsOver dimensions) folds
all_over dimensions [] each = tt
all_over dimensions (fold ∷ folds) each =
    (each 0 fold (omega arith), all_over dimensions folds (λ i part lt. each (suc i) part (omega (arith, lt))))

pub over_rows : (dimensions : DimRows) (fold : ModeFoldState) (rows : List LineOrder)
    → RepresentsModeRows dimensions fold rows → IsOverByModes dimensions fold
over_rows dimensions fold rows represents = record {
  together = represents.together.over;
  each = all_over dimensions fold.folds (λ i part lt.
      (represents.each i [] part (omega (arith, lt, represents.counted))).over);
}

-- a piece that could not be read
pub LooksAtNext-refused : (dimensions : DimRows) (asked : ModeQuery) (before : List LineOrder) (old new : Unread)
    (met : Met) (fold : ModeFoldState) (fault : Fault) (result : Result Found Fault)
    → RefusesBatch lineorder_row most_batch_rows old fault
    → (other : Fault) × (result ≡ Err other) × (other ≡ fault)
    → LooksAtNext dimensions asked before old new met fold result
LooksAtNext-refused dimensions asked before old new met fold fault result refused is = rw (is.1, is.2) refused

-- the ship modes of a piece more
pub modes_more : (dimensions : DimRows) (asked : ModeQuery) (before earlier rows : List LineOrder) (found more : Found)
    (fold next : ModeFoldState) (old new : Met) (count : ℕ) → IsBegun dimensions asked before earlier found fold
    → IsBegun dimensions asked before (earlier ++ rows) more next → count ≡ found.row_count
    → HasMetRows found old before earlier
    → ((others earlier : List LineOrder) → count ≡ length earlier → HasMetRows more old others earlier
    → HasMetRows more new others (earlier ++ rows))
    → HasMetRows more new before (earlier ++ rows)
modes_more dimensions asked before earlier rows found more fold next old new count begun also count_is has each =
    each before earlier (count_is ∙ ap (λ some. some.row_count) begun.found_is)
    (λ none. has (early-before dimensions (totals_of before) earlier rows found more begun.found_is also.found_is none))

-- ==== A batch that is taken, and one that is refused.

-- what was taken, by the fold's own query, and back
pub AreTaken-own : (dimensions : DimRows) (asked : ModeQuery) (accepted : Accepted) (fold : ModeFoldState)
    (batches : List (List LineOrder)) → AreTaken dimensions asked accepted fold batches
    → AreTaken dimensions fold.asked accepted fold batches
AreTaken-own dimensions asked accepted fold batches taken = record {
  represents = taken.represents;
  query_is = refl;
  folded = taken.folded;
  few = taken.few;
  foldable = taken.foldable;
}

pub AreTaken-of : (dimensions : DimRows) (asked other : ModeQuery) (accepted : Accepted) (fold : ModeFoldState)
    (batches : List (List LineOrder)) → asked ≡ other → AreTaken dimensions asked accepted fold batches
    → AreTaken dimensions other accepted fold batches
AreTaken-of dimensions asked other accepted fold batches same taken =
    subst (λ q. AreTaken dimensions q accepted fold batches) same taken

-- a batch could not be read
pub TakesNextBatch-unread : (dimensions : DimRows) (asked : ModeQuery) (batches : List (List LineOrder))
    (old new : Unread) (accepted : Accepted) (met : Met) (fold : ModeFoldState) (fault : Fault)
    (result : Result Bool Fault)
    → RefusesBatch lineorder_row most_batch_rows old fault → (other : Fault) × (result ≡ Err other) × (other ≡ fault)
    → TakesNextBatch dimensions asked batches old new accepted met fold result
TakesNextBatch-unread dimensions asked batches old new accepted met fold fault result (inl memory) is =
    rw (is.1, is.2) (inl memory)
TakesNextBatch-unread dimensions asked batches old new accepted met fold fault result (inr (inl input)) is =
    rw (is.1, is.2) (inr (inl input))
TakesNextBatch-unread dimensions asked batches old new accepted met fold fault result (inr (inr first)) is =
    rw (is.1, is.2) (inr (inr (inl first)))

-- or was read, and is refused
pub TakesNextBatch-refused : (dimensions : DimRows) (asked : ModeQuery) (batches : List (List LineOrder))
    (old new : Unread) (accepted : Accepted) (met : Met) (fold : ModeFoldState) (rows : List LineOrder)
    (fault : Fault) (result : Result Bool Fault)
    → 1 ≤ length rows → TakesBatch lineorder_row most_batch_rows old new rows
    → Some fault ≡ moded_refusal dimensions batches (length batches + 1) rows → (other : Fault) × (result ≡ Err other)
    × (other ≡ fault)
    → TakesNextBatch dimensions asked batches old new accepted met fold result
TakesNextBatch-refused dimensions asked batches old new accepted met fold rows fault result some read refused is =
    rw (is.1, is.2)
    (inr (inr (inr (
      rows,
      record {
        some = some;
        read = read;
        refused = sym refused;
      },
    ))))

-- no row was left
pub no_rows : (old new : Unread) (rows : List LineOrder) → length rows ≡ 0
    → TakesBatch lineorder_row most_batch_rows old new rows → TakesBatch lineorder_row most_batch_rows old new []
no_rows old new [] none read = read
no_rows old new (row ∷ rows) none read = absurd (omega arith)

-- the evaluation ends with the fault of the next batch
pub gives-stopped : (asked : ModeQuery) (dimensions : DimRows) (text : List ℕ) (batches : List (List LineOrder))
    (old new : Unread) (accepted : Accepted) (met : Met) (fold : ModeFoldState) (own : ModeQuery) (fault : Fault)
    (result : Result Answer Fault)
    → LeavesFacts dimensions text batches old.number old.left
    → TakesNextBatch dimensions own batches old new accepted met fold (Err fault)
    → (other : Fault) × (result ≡ Err other) × (other ≡ fault)
    → GivesUnlessFailed (moded_answer_of asked dimensions text) result
gives-stopped asked dimensions text batches old new accepted met fold own fault result before (inl memory) is =
    gives-unread asked dimensions text batches old.number old.left fault result before (inl memory) is
gives-stopped asked dimensions text batches old new accepted met fold own fault result before (inr (inl input)) is =
    gives-unread asked dimensions text batches old.number old.left fault result before (inr (inl input)) is
gives-stopped asked dimensions text batches old new accepted met fold own fault result before (inr (inr (inl first)))
    is =
    gives-unread asked dimensions text batches old.number old.left fault result before (inr (inr first)) is
gives-stopped asked dimensions text batches old new accepted met fold own fault result before
    (inr (inr (inr (rows, refused)))) is =
    gives-refused asked dimensions text batches old.number (length batches + 1) old.left new.left rows fault result
    before refused.read.taken refused.some refl (sym refused.refused) is

-- the number of accepted batches grows, and stays within its limit
pub count_more : (dimensions : DimRows) (asked own : ModeQuery) (batches : List (List LineOrder)) (old new : Unread)
    (accepted next : Accepted) (met : Met) (fold more : ModeFoldState) (rows : List LineOrder)
    → AreTaken dimensions asked accepted fold batches → FoldsNextBatch dimensions own batches old new next met more rows
    → 4097 - next.count < 4097 - accepted.count
count_more dimensions asked own batches old new accepted next met fold more rows taken batch =
    let pass = passes dimensions batches (length batches + 1) rows
    (plain dimensions batches (length batches + 1) rows batch.passes) in
    omega (arith, taken.represents.count, batch.taken.represents.count, pass.batches_left, length_push batches rows)
