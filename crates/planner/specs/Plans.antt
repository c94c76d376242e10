-- From where a query is answered, and what that reads: the linear cost of Harinarayan, Rajaraman and Ullman 1996, by
-- which an answer costs the cells and fact rows that it goes through. Marks, tails and ties are our own.
use Rattle.std.specs.Prelude.{◌≡◌, ℕ, ◌+◌, ◌-◌, ◌≤◌, ◌<◌, ◌⊎◌, List, take, drop}
use Rattle.std.specs.List.{sum, Contains}
use Rattle.cube_model.specs.declared.query.Query.{Query}
use Rattle.lattice.specs.Determined.{Serves}
use Rattle.lattice.specs.Views.{index_of}
use Rattle.planner.specs.declared.price.AccessPath.{AccessPath}
use Rattle.planner.specs.declared.price.AccessPath.TheVariants.{Scan, Cells}
use Rattle.planner.specs.declared.price.Priced.{Priced}
use Rattle.planner.specs.declared.stored.Stored.{Stored}

-- the fact rows of the batches after one up to another, where batches count from 1
abbrev pub rows_between : List ℕ → ℕ → ℕ → ℕ
rows_between batch_rows from to = sum (take (to - from) (drop from batch_rows))

-- a stored cuboid serves a query over the first batches: it groups none of the others, and its view serves the query
pub record ServesAsOf (query : Query) (as_of : ℕ) (stored : Stored) : Type 0 where
  pub in_time : stored.mark ≤ as_of
  pub serves : Serves stored.view query

-- what a stored cuboid reads: its cells, and the fact rows of the batches after its mark
abbrev pub cells_cost : List ℕ → ℕ → Stored → ℕ
cells_cost batch_rows as_of stored = stored.cells + rows_between batch_rows stored.mark as_of

-- A plan answers a query over the first batches, and reads so much. A scan always answers; it reads the fact rows of
-- all these batches. Cells answer where they are of a stored cuboid that serves the query.
abbrev pub AnswersAt : Query → List Stored → List ℕ → ℕ → AccessPath → ℕ → Type 0
AnswersAt query stored batch_rows as_of Scan cost = cost ≡ rows_between batch_rows 0 as_of
AnswersAt query stored batch_rows as_of (Cells view mark) cost =
    (one : Stored) × Contains stored one × ServesAsOf query as_of one
    × (one.view ≡ view) × (one.mark ≡ mark) × (cost ≡ cells_cost batch_rows as_of one)

-- the order of plans of one cost: the scan, then the cuboids by their numbers
abbrev pub rank : AccessPath → ℕ
rank Scan = 0
rank (Cells view mark) = index_of view + 1

-- a plan of a cost is the one to take: it answers, no plan that answers reads less, and of those that read as much it
-- is the first
pub record IsCheapest (query : Query) (stored : List Stored) (batch_rows : List ℕ) (as_of : ℕ) (plan : AccessPath)
    (cost : ℕ) : Type 0 where
  pub answers : AnswersAt query stored batch_rows as_of plan cost
  pub none_cheaper : (other : AccessPath) (other_cost : ℕ) → AnswersAt query stored batch_rows as_of other other_cost
      → cost ≤ other_cost
  pub tie : (other : AccessPath) → AnswersAt query stored batch_rows as_of other cost → rank plan ≤ rank other

abbrev pub IsPlan : Query → List Stored → List ℕ → ℕ → AccessPath → Type 0
IsPlan query stored batch_rows as_of plan = (cost : ℕ) × IsCheapest query stored batch_rows as_of plan cost

-- one priced plan is taken before another: it reads less, or as much and is not after it in the order
abbrev pub ComesFirst : Priced → Priced → Type 0
ComesFirst first second = (first.cost < second.cost)
    ⊎ ((first.cost ≡ second.cost) × (rank first.plan ≤ rank second.plan))
