-- Steps of a running query.
use Rattle.std.proofs.Common.{◌≡◌, ◌∙◌, ℕ, ◌+◌, ◌-◌, ◌<◌, ◌≤◌, List, ◌++◌, None, Some, length, take, refl, sym, ap}
use Rattle.std.proofs.Common.{subst, arith}
use Rattle.std.proofs.lemmas.List.{length-append, take-append-le}
use Rattle.cube_model.specs.declared.answer.Answer.{Answer}
use Rattle.cube_model.specs.declared.query.Query.{Query}
use Rattle.cube_model.specs.declared.rows.DimRows.{DimRows}
use Rattle.cube_model.specs.declared.rows.LineOrder.{LineOrder}
use Rattle.cube_model.specs.Admission.{all_rows}
use Rattle.cube_model.specs.Answers.{answer}
use Rattle.cube_query.specs.Groups.{FoldState, IsFoldable, RepresentsRows}
use Rattle.group_tallies.specs.Limits.{AreFoldable}
use Rattle.planner.specs.declared.price.AccessPath.{AccessPath}
use Rattle.warehouse_objects.specs.Warehouse.{AreInOrder, Warehouse}
use Rattle.warehouse_objects.proofs.CallerLemmas.{foldable}
use Rattle.planned_queries.specs.Planned.{IsPlanOf, mark_of}
use Rattle.planned_queries.specs.Stepping.{Advances, Extends, IsRunning, RunningState, Started, Starts}

-- a query that begins with the cells of its plan
pub begun : (w : Warehouse) (as_of : ℕ) (query : Query) (running : RunningState)
    → (plan : AccessPath) × IsPlanOf w as_of query plan × (running.done ≡ mark_of plan)
    × RepresentsRows w.rows running.fold (all_rows (take running.done w.batches))
    → running.rows ≡ w.rows → running.fold.query ≡ query → running.as_of ≡ as_of → running.done ≤ as_of
    → as_of ≤ length w.batches → AreInOrder w.rows w.batches
    → (s : Started) × Starts w as_of query s × IsRunning running s
begun w as_of query running cells rows asked many in_time there order = (
  record { query = query; as_of = as_of; rows = w.rows; batches = w.batches; left = as_of - mark_of cells.0 },
  (cells.0, cells.1, refl),
  record {
    query = asked;
    rows = rows;
    as_of = many;
    there = there;
    in_order = order;
    left = omega (arith, cells.2, in_time);
    folds = subst (λ (d : DimRows). RepresentsRows d running.fold (all_rows (take running.done w.batches))) (sym rows)
        cells.3;
  },
)

-- the first batches of the start are those of now
first_batches : (s : Started) (w : Warehouse) (n : ℕ) → Extends s w → n ≤ length s.batches
    → take n w.batches ≡ take n s.batches
first_batches s w n extends le = ap (λ (l : List (List LineOrder)). take n l) extends.batches
    ∙ take-append-le n s.batches extends.more le

there_are : (s : Started) (w : Warehouse) → Extends s w → length s.batches ≤ length w.batches
there_are s w extends = let more : length w.batches ≡ length (s.batches ++ extends.more) =
    ap (λ (l : List (List LineOrder)). length l) extends.batches in
    omega (arith, more, length-append s.batches extends.more)

module _ (running : RunningState) (w : Warehouse) (s : Started) (extends : Extends s w) (is : IsRunning running s) where
  pub folds_first : RepresentsRows running.rows running.fold (all_rows (take running.done w.batches))
  folds_first =
      subst (λ (l : List (List LineOrder)). RepresentsRows running.rows running.fold (all_rows l))
      (sym (first_batches s w running.done extends (omega (arith, is.left, is.there)))) is.folds

  pub next_is_there : running.done < running.as_of → running.done < length w.batches
  next_is_there lt = omega (arith, lt, is.as_of, is.there, there_are s w extends)

  -- the dimensions of the start have the keys of the batches up to the next one
  pub next_foldable : (dims : DimRows) → dims ≡ running.rows → running.done < running.as_of
      → AreFoldable dims (all_rows (take (running.done + 1) w.batches))
  next_foldable dims same lt =
      let within : running.done + 1 ≤ length s.batches = omega (arith, lt, is.as_of, is.there) in
      subst (λ (l : List (List LineOrder)). AreFoldable dims (all_rows l))
      (sym (first_batches s w (running.done + 1) extends within))
      (subst (λ (d : DimRows). AreFoldable d (all_rows (take (running.done + 1) s.batches))) (sym (same ∙ is.rows))
      (foldable s.rows s.batches is.in_order (running.done + 1) within))

  -- what it has can be answered
  pub can_finish : (dims : DimRows) → dims ≡ running.rows → IsFoldable dims running.fold
  can_finish dims same =
      let rows = all_rows (take running.done s.batches) in
      let within : running.done ≤ length s.batches = omega (arith, is.left, is.there) in (
        rows,
        (
          subst (λ (d : DimRows). RepresentsRows d running.fold rows) (sym same) is.folds,
          subst (λ (d : DimRows). AreFoldable d rows) (sym (same ∙ is.rows))
              (foldable s.rows s.batches is.in_order running.done within),
        ),
      )

  -- the answer, where no batch is left
  pub last_step : (dims : DimRows) (found : Answer) → dims ≡ running.rows → running.as_of ≤ running.done
      → ((rows : List LineOrder) → RepresentsRows dims running.fold rows → found ≡ answer running.fold.query dims rows)
      → Advances s running (Some found)
  last_step dims found same le answers =
      let n : running.done ≡ s.as_of = omega (arith, le, is.left, is.as_of) in
      let rows = all_rows (take running.done s.batches) in (
        omega (arith, le, is.left, is.as_of),
        answers rows (subst (λ (d : DimRows). RepresentsRows d running.fold rows) (sym same) is.folds)
            ∙ ap (λ (q : Query). answer q dims rows) is.query
            ∙ ap (λ (d : DimRows). answer s.query d rows) (same ∙ is.rows)
            ∙ ap (λ (k : ℕ). answer s.query s.rows (all_rows (take k s.batches))) n,
      )

  -- one batch more
  pub next_step : (fold : FoldState) → running.done < running.as_of → fold.query ≡ running.fold.query
      → RepresentsRows running.rows fold (all_rows (take (running.done + 1) w.batches))
      → Advances s (record { rows = running.rows; fold = fold; done = running.done + 1; as_of = running.as_of }) None
  next_step fold lt same goes = (
    s.left - 1,
    omega (arith, lt, is.left, is.as_of),
    record {
      query = same ∙ is.query;
      rows = is.rows;
      as_of = is.as_of;
      there = is.there;
      in_order = is.in_order;
      left = omega (arith, lt, is.left, is.as_of);
      folds = subst (λ (l : List (List LineOrder)). RepresentsRows running.rows fold (all_rows l))
          (first_batches s w (running.done + 1) extends (omega (arith, lt, is.left, is.as_of, is.there))) goes;
    },
  )
