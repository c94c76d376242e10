-- A query that runs batch by batch, and what it was started over.
use Rattle.std.specs.Prelude.{◌≡◌, ◌≤◌, ℕ, ◌+◌, ◌-◌, Option, Some, None, List, ◌++◌, length, take}
use Rattle.cube_model.specs.declared.answer.Answer.{Answer}
use Rattle.cube_model.specs.declared.query.Query.{Query}
use Rattle.cube_model.specs.declared.rows.DimRows.{DimRows}
use Rattle.cube_model.specs.declared.rows.LineOrder.{LineOrder}
use Rattle.cube_model.specs.Admission.{all_rows}
use Rattle.cube_model.specs.Answers.{answer_as_of}
use Rattle.cube_query.specs.Groups.{FoldState, RepresentsRows}
use Rattle.planner.specs.declared.price.AccessPath.{AccessPath}
use Rattle.warehouse_objects.specs.Warehouse.{AreInOrder, Warehouse}
use Rattle.planned_queries.specs.Planned.{IsPlanOf, mark_of}

-- a running query: the rows of its dimensions, its fold, how many of the first batches the fold holds, and how many it
-- asks for
pub record RunningState : Type 0 where
  pub rows : DimRows
  pub fold : FoldState
  pub done : ℕ
  pub as_of : ℕ

-- a query that was started: over how many of the batches of then, and how many steps come before that which answers
pub record Started : Type 0 where
  pub query : Query
  pub as_of : ℕ
  pub rows : DimRows
  pub batches : List (List LineOrder)
  pub left : ℕ

-- a query starts on a warehouse: a step for each batch after those that its plan's cells hold
abbrev pub Starts : Warehouse → ℕ → Query → Started → Type 0
Starts w as_of query s = (plan : AccessPath) × IsPlanOf w as_of query plan
    × (s ≡ record { query = query; as_of = as_of; rows = w.rows; batches = w.batches; left = as_of - mark_of plan })

-- the same with so many steps left
abbrev pub stepped : Started → ℕ → Started
stepped s left = record { query = s.query; as_of = s.as_of; rows = s.rows; batches = s.batches; left = left }

-- its answer is the definition's
abbrev pub started_answer : Started → Answer
started_answer s = answer_as_of s.query s.as_of s.rows s.batches

-- the batches of the start are the first, whatever rows the dimensions have now
pub record Extends (s : Started) (w : Warehouse) : Type 0 where
  pub more : List (List LineOrder)
  pub batches : w.batches ≡ s.batches ++ more

-- a running query is one that was started, with the batches in its fold that come before its next step
pub record IsRunning (running : RunningState) (s : Started) : Type 0 where
  pub query : running.fold.query ≡ s.query
  pub rows : running.rows ≡ s.rows
  pub as_of : running.as_of ≡ s.as_of
  pub there : s.as_of ≤ length s.batches
  pub in_order : AreInOrder s.rows s.batches
  pub left : running.done + s.left ≡ s.as_of
  pub folds : RepresentsRows running.rows running.fold (all_rows (take running.done s.batches))

-- a step of a running query: one batch more, or the answer after the last one
abbrev pub Advances : Started → RunningState → Option Answer → Type 0
Advances s new None = (left : ℕ) × (s.left ≡ left + 1) × IsRunning new (stepped s left)
Advances s new (Some found) = (s.left ≡ 0) × (found ≡ started_answer s)
