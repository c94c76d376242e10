-- Plans of queries that may look at ship modes.
use Rattle.std.proofs.Common.{◌≡◌, ◌↔◌, ◌∙◌, ℕ, true, List, [], ◌∷◌, Some, cond, map, length, refl, sym, ap, subst}
use Rattle.std.proofs.Math.Bool.{or-true}
use Rattle.std.specs.List.{Contains}
use Rattle.std.proofs.lemmas.List.Elements.{All-contains, All-contains_itself, All-filter, filter_passes}
use Rattle.cube_model.specs.declared.query.Query.{Query}
use Rattle.lattice.specs.declared.view.View.{View}
use Rattle.lattice.specs.Views.{index_of}
use Rattle.mode_queries.specs.declared.query.ModeQuery.{ModeQuery}
use Rattle.mode_queries.specs.Lawful.{without_modes}
use Rattle.object_store.specs.Content.{Content}
use Rattle.planner.specs.declared.price.AccessPath.{AccessPath}
use Rattle.planner.specs.declared.price.AccessPath.TheVariants.{Scan, Cells}
use Rattle.planner.specs.declared.price.Priced.{Priced}
use Rattle.planner.specs.declared.stored.Stored.{Stored}
use Rattle.planner.specs.Listed.{HasCheapestFirst}
use Rattle.planner.specs.Plans.{AnswersAt, IsPlan}
use Rattle.warehouse_objects.specs.Represents.{Represents}
use Rattle.warehouse_objects.specs.Warehouse.{Cuboid, Warehouse, cuboid_at}
use Rattle.warehouse_objects.proofs.CallerLemmas.{own_view}
use Rattle.planned_queries.specs.Planned.{IsOfCuboid, ServesBy, stored_of}
use Rattle.planned_queries.proofs.Cuboids.{seen_at}
use Rattle.planned_queries.specs.Lawful.{PlannedWithoutShipModes}
use Rattle.planned_queries.specs.ModesPlanned.{IsPlanByModes, ServesByModes, has_modes_for, stored_for}

-- what is kept for a query is stored
is_stored : (asked : ModeQuery) (stored : List Stored) (one : Stored) → Contains (stored_for asked stored) one
    → Contains stored one
is_stored asked stored one kept =
    All-contains (Contains stored) (stored_for asked stored) one
    (All-filter (λ one. has_modes_for asked one.view) (Contains stored) stored (All-contains_itself stored)) kept

-- and has the ship modes that the query looks at
has_modes : (asked : ModeQuery) (stored : List Stored) (one : Stored) → Contains (stored_for asked stored) one
    → has_modes_for asked one.view ≡ true
has_modes asked stored one kept =
    All-contains (λ one. has_modes_for asked one.view ≡ true) (stored_for asked stored) one
    (filter_passes (λ one. has_modes_for asked one.view) stored) kept

-- so a plan over what is kept has what the query asks for
pub serves_by_modes : (asked : ModeQuery) (stored : List Stored) (rows : List ℕ) (as_of : ℕ) (plan : AccessPath)
    → IsPlan asked.query (stored_for asked stored) rows as_of plan → ServesByModes asked plan
serves_by_modes asked stored rows as_of Scan is = (tt, tt)
serves_by_modes asked stored rows as_of (Cells view mark) is =
    let answers = is.1.answers in (
      subst (λ v. ServesBy asked.query (Cells v mark)) answers.3 answers.2.serves,
      ap (has_modes_for asked) (sym answers.3) ∙ has_modes asked stored answers.0 answers.1,
    )

-- the cells of a plan are those of a cuboid
pub of_cuboid : (c : Content) (w : Warehouse) (as_of : ℕ) (asked : ModeQuery) (plan : AccessPath) → Represents c w
    → IsPlanByModes w as_of asked plan → IsOfCuboid w plan
of_cuboid c w as_of asked Scan represents is = tt
of_cuboid c w as_of asked (Cells view mark) represents is =
    let answers = is.1.answers in
    let stored = is_stored asked (stored_of w) answers.0 answers.1 in
    let found = seen_at w.cuboids answers.0 stored.0 stored.1 stored.2 in
    let view_is : found.0.view ≡ view = ap (λ (s : Stored). s.view) found.2 ∙ answers.3 in (
      found.0,
      ap (λ (v : View). cuboid_at (index_of v) w.cuboids) (sym view_is)
          ∙ ap (λ (cuboid : Cuboid). cuboid_at (index_of cuboid.view) w.cuboids) (sym found.1)
          ∙ own_view w.cuboids stored.0 found.0 represents.root.proper.ascending found.3
          ∙ ap (λ (cuboid : Cuboid). Some cuboid) found.1,
      ap (λ (s : Stored). s.mark) found.2 ∙ answers.4,
    )

-- for a query that does not look at ship modes all are kept
all_kept : (query : Query) (stored : List Stored) → stored_for (without_modes query) stored ≡ stored
all_kept query [] = refl
all_kept query (one ∷ stored) =
    let rest = stored_for (without_modes query) stored in
    ap (λ b. cond b (one ∷ rest) rest) (or-true one.view.ship_mode)
    ∙ ap (λ (kept : List Stored). one ∷ kept) (all_kept query stored)

-- so it has the same plans
pub planned_without_ship_modes : PlannedWithoutShipModes
planned_without_ship_modes w as_of query plans =
    let rows = map length w.batches in
    let each : List Stored → Type 0 =
    λ stored. (one : Priced) → Contains plans one ↔ AnswersAt query stored rows as_of one.plan one.cost in
    let first : List Stored → Type 0 = λ stored. HasCheapestFirst query stored rows as_of plans in
    let same = all_kept query (stored_of w) in (
      λ by_modes. record { each = subst each same by_modes.each; first = subst first same by_modes.first },
      λ of. record { each = subst each (sym same) of.each; first = subst first (sym same) of.first },
    )
