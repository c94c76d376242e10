-- The plan of a query that may look at ship modes, over a warehouse: the plan of the query without them, where of the
-- stored cuboids only those count whose cells have the ship modes that it looks at. Our own.
use Rattle.std.specs.Prelude.{◌≡◌, ◌↔◌, ℕ, ◌||◌, nat_lt, Bool, true, not, is_some, List, length, map}
use Rattle.std.specs.List.{Contains, filter}
use Rattle.lattice.specs.declared.view.View.{View}
use Rattle.mode_queries.specs.declared.query.ModeQuery.{ModeQuery}
use Rattle.planner.specs.declared.price.AccessPath.{AccessPath}
use Rattle.planner.specs.declared.price.AccessPath.TheVariants.{Scan, Cells}
use Rattle.planner.specs.declared.price.Priced.{Priced}
use Rattle.planner.specs.declared.stored.Stored.{Stored}
use Rattle.planner.specs.Listed.{HasCheapestFirst}
use Rattle.planner.specs.Plans.{AnswersAt, IsPlan}
use Rattle.planned_queries.specs.Planned.{ServesBy, stored_of}
use Rattle.warehouse_objects.specs.Warehouse.{Warehouse}

-- a query looks at ship modes: one of its columns is the ship mode, or it has a condition on it
abbrev pub looks_at_modes : ModeQuery → Bool
looks_at_modes asked = is_some asked.place || nat_lt 0 (length asked.conditions)

-- the cells of a view have the ship modes that a query looks at: the view groups by them, or the query looks at none
abbrev pub has_modes_for : ModeQuery → View → Bool
has_modes_for asked view = view.ship_mode || not (looks_at_modes asked)

-- of some stored cuboids, those whose cells have the ship modes that a query looks at
abbrev pub stored_for : ModeQuery → List Stored → List Stored
stored_for asked stored = filter (λ one. has_modes_for asked one.view) stored

-- the plan of a query over the first batches of a warehouse: the one that reads least
abbrev pub IsPlanByModes : Warehouse → ℕ → ModeQuery → AccessPath → Type 0
IsPlanByModes w as_of asked plan = IsPlan asked.query (stored_for asked (stored_of w)) (map length w.batches) as_of plan

-- every plan that answers a query over the first batches of a warehouse, each with what it reads, the one to be taken
-- first
pub record ArePlansByModes (w : Warehouse) (as_of : ℕ) (asked : ModeQuery) (plans : List Priced) : Type 0 where
  pub each : (one : Priced) → Contains plans one
      ↔ AnswersAt asked.query (stored_for asked (stored_of w)) (map length w.batches) as_of one.plan one.cost
  pub first : HasCheapestFirst asked.query (stored_for asked (stored_of w)) (map length w.batches) as_of plans

-- the cells of a plan have the ship modes that a query looks at; a scan has those of its fact rows
abbrev pub HasModesFor : ModeQuery → AccessPath → Type 0
HasModesFor asked Scan = Unit {0}
HasModesFor asked (Cells view mark) = has_modes_for asked view ≡ true

-- the view of a plan has what a query asks for, and the ship modes that it looks at
abbrev pub ServesByModes : ModeQuery → AccessPath → Type 0
ServesByModes asked plan = ServesBy asked.query plan × HasModesFor asked plan
