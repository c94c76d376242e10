-- The calls of a fold as a whole.
use Rattle.std.proofs.Common.{◌≡◌, sym, ap, refl, subst, true, false, ◌||◌, List, ◌++◌, Option, Some, None}
use Rattle.std.specs.Prelude.{OnOk, Result, Ok, Err, is_none, is_some}
use Rattle.cube_model.specs.declared.rows.DimRows.{DimRows}
use Rattle.cube_model.specs.declared.rows.LineOrder.{LineOrder}
use Rattle.cube_query.specs.Groups.{CanTake, FoldState, RepresentsRows, Takes}
use Rattle.group_tallies.specs.Limits.{AreFoldable}
use Rattle.mode_folds.specs.States.{TakesTogether, folds_together, rows_if, rows_together}
use Rattle.mode_folds.proofs.Finish.{passing_foldable}
use Rattle.mode_folds.proofs.Takes.{passing-append, together_takes}
use Rattle.mode_queries.specs.Joining.{has_coarser, passing}
use Rattle.mode_queries.specs.declared.query.ModeQuery.{ModeQuery}

pub on_ok : {T E : Type 0} {P Q : Type 0} (r : Result T E) → (P → Q) → OnOk r P → OnOk r Q
on_ok (Ok x) f ok = f ok
on_ok (Err e) f ok = tt

pub none_or_some : {X : Type 0} (o : Option X) → is_some o ≡ false → o ≡ None
none_or_some None e = refl
none_or_some (Some x) e = cc

-- without a column of ship modes all rows that pass are folded together
pub together_none : (asked : ModeQuery) (rows : List LineOrder) → asked.place ≡ None
    → rows_together asked rows ≡ passing asked.conditions rows
together_none asked rows none =
    ap (λ p. rows_if (is_none p || has_coarser asked.query.kind) (passing asked.conditions rows)) none

together_all : (asked : ModeQuery) (rows : List LineOrder) → folds_together asked ≡ true
    → rows_together asked rows ≡ passing asked.conditions rows
together_all asked rows is = ap (λ b. rows_if b (passing asked.conditions rows)) is

pub takes_passing : (dimensions : DimRows) (asked : ModeQuery) (old new : FoldState) (rows : List LineOrder)
    → folds_together asked ≡ true → Takes dimensions old rows new
    → (all : List LineOrder) → rows ≡ passing asked.conditions all → TakesTogether dimensions asked old all new
takes_passing dimensions asked old new rows is takes all rows_are =
    together_takes dimensions asked old all new is (subst (λ l. Takes dimensions old l new) rows_are takes)

-- the passing ones of rows that may be folded may be folded after those of others
pub passing_after : (dimensions : DimRows) (asked : ModeQuery) (so_far all rows : List LineOrder)
    → rows ≡ passing asked.conditions all → AreFoldable dimensions (so_far ++ all)
    → AreFoldable dimensions (passing asked.conditions so_far ++ rows)
passing_after dimensions asked so_far all rows rows_are can =
    subst (λ l. AreFoldable dimensions (passing asked.conditions so_far ++ l)) (sym rows_are)
    (subst (AreFoldable dimensions) (passing-append asked so_far all)
    (passing_foldable dimensions asked (so_far ++ all) can))

pub can_together : (dimensions : DimRows) (asked : ModeQuery) (old : FoldState) (rows so_far all : List LineOrder)
    → folds_together asked ≡ true → rows ≡ passing asked.conditions all
    → RepresentsRows dimensions old (rows_together asked so_far) → AreFoldable dimensions (so_far ++ all)
    → CanTake dimensions old rows
can_together dimensions asked old rows so_far all is rows_are represents can = (
  rows_together asked so_far,
  (
    represents,
    subst (λ l. AreFoldable dimensions (l ++ rows)) (sym (together_all asked so_far is))
        (passing_after dimensions asked so_far all rows rows_are can),
  ),
)
