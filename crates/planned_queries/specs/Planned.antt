-- The plan of a query over a warehouse.
use Rattle.std.specs.Prelude.{◌≡◌, ◌↔◌, ℕ, Some, List, length, map}
use Rattle.std.specs.List.{Contains}
use Rattle.cube_model.specs.declared.query.Query.{Query}
use Rattle.lattice.specs.Determined.{Serves}
use Rattle.lattice.specs.Views.{index_of}
use Rattle.planner.specs.declared.price.AccessPath.{AccessPath}
use Rattle.planner.specs.declared.price.AccessPath.TheVariants.{Scan, Cells}
use Rattle.planner.specs.declared.price.Priced.{Priced}
use Rattle.planner.specs.declared.stored.Stored.{Stored}
use Rattle.planner.specs.Listed.{HasCheapestFirst}
use Rattle.planner.specs.Plans.{AnswersAt, IsPlan}
use Rattle.warehouse_objects.specs.Warehouse.{Cuboid, Warehouse, cell_count, cuboid_at}

-- what the planner looks at of a stored cuboid
abbrev pub seen_of : Cuboid → Stored
seen_of cuboid = record { view = cuboid.view; mark = cuboid.mark; cells = cell_count cuboid.runs }

-- the stored cuboids of a warehouse, as the planner looks at them
abbrev pub stored_of : Warehouse → List Stored
stored_of w = map seen_of w.cuboids

-- the plan of a query over the first batches of a warehouse
abbrev pub IsPlanOf : Warehouse → ℕ → Query → AccessPath → Type 0
IsPlanOf w as_of query plan = IsPlan query (stored_of w) (map length w.batches) as_of plan

-- every plan that answers a query over the first batches of a warehouse, each with what it reads, the one to be taken
-- first
pub record ArePlansOf (w : Warehouse) (as_of : ℕ) (query : Query) (plans : List Priced) : Type 0 where
  pub each : (one : Priced) → Contains plans one
      ↔ AnswersAt query (stored_of w) (map length w.batches) as_of one.plan one.cost
  pub first : HasCheapestFirst query (stored_of w) (map length w.batches) as_of plans

-- how many of the first batches the cells of a plan hold
abbrev pub mark_of : AccessPath → ℕ
mark_of Scan = 0
mark_of (Cells view mark) = mark

-- the view of a plan has what a query asks for
abbrev pub ServesBy : Query → AccessPath → Type 0
ServesBy query Scan = Unit {0}
ServesBy query (Cells view mark) = Serves view query

-- the cells of a plan are those of a stored cuboid of a warehouse
abbrev pub IsOfCuboid : Warehouse → AccessPath → Type 0
IsOfCuboid w Scan = Unit {0}
IsOfCuboid w (Cells view mark) = (cuboid : Cuboid) × (cuboid_at (index_of view) w.cuboids ≡ Some cuboid)
    × (cuboid.mark ≡ mark)
