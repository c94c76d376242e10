use Rattle.std.proofs.Common.{◌≡◌, ◌+◌, ◌⊎◌, ◌↔◌, List, get_or, sym, ap, subst, take}
use Rattle.std.specs.List.{Contains}
use Rattle.planner.specs.declared.price.AccessPath.{AccessPath}
use Rattle.planner.specs.declared.price.Priced.{Priced}
use Rattle.planner.specs.Listed.{HasCheapestFirst}
use Rattle.planner.specs.Plans.{AnswersAt, ComesFirst, ServesAsOf}
use Rattle.planner.proofs.ListingLemmas.{iff_through, listed_more_at, listed_passed_at, or_through}
use Rattle.planner.proofs.Taken.{untrue, passed_at, taken_at}
use Rattle.planner.proofs.listing.plans.Goals as goal
use Rattle.planner.proofs.listing.plans.Goals.{then-serves+in_ok-add, else-serves}

pub loop-one-preserved : goal.loop-one-preserved
loop-one-preserved c =
    let query = c.args.query.now in
    let rows = c.args.batch_rows.now in
    let as_of = c.args.as_of in
    let stored = c.args.stored.now in
    let i = c.loop-one.one-index in
    let so_far = c.loop-one.invariant in
    let first = so_far.0 in
    elim c.if-serves.branch [
      | then-serves+in_ok-add w ↦
          let better = w.in_ok-add.ensures.first first.0 first.1 in
          let serves = c.serves.ensures.0 w.if-serves.true in
          let plan = ap (λ (other : Priced). other.plan) w.by_cells.ensures in
          subst (λ (plans : List Priced). HasCheapestFirst query (take (i + 1) stored) rows as_of plans
          × ((one : Priced) → Contains plans one
          ↔ AnswersAt query (take (i + 1) stored) rows as_of one.plan one.cost))
          (sym (ap (λ p. p.items) w.plans-is)) (
            (
              better.0,
              better.1,
              taken_at query rows as_of stored i _ c.loop-one-test.true first.0 better.0 w.by_cells.result.cost
                  (ap (λ (other : Priced). other.cost) w.by_cells.ensures) serves first.2
                  (subst (λ (p : AccessPath). (better.0 ≡ first.0)
                  ⊎ (better.0 ≡ record { plan = p; cost = w.by_cells.result.cost })) plan better.2)
                  better.3
                  (subst (λ (p : AccessPath). ComesFirst better.0 (record { plan = p; cost = w.by_cells.result.cost }))
                  plan
                  better.4),
            ),
            λ one. iff_through (w.in_ok-add.ensures.each one)
                (iff_through (or_through (so_far.1 one))
                (listed_more_at query rows as_of stored i _ c.loop-one-test.true one serves w.by_cells.result
                w.by_cells.ensures)),
          )
      | else-serves w ↦
          let unable : ServesAsOf query as_of (get_or stored i _)
          → ⊥ = λ serves. untrue c.serves.result (c.serves.ensures.1 serves) w.if-serves.false in
          subst (λ (plans : List Priced). HasCheapestFirst query (take (i + 1) stored) rows as_of plans
          × ((one : Priced) → Contains plans one
          ↔ AnswersAt query (take (i + 1) stored) rows as_of one.plan one.cost))
          (sym (ap (λ p. p.items) w.plans-is)) (
            (first.0, first.1, passed_at query rows as_of stored i _ c.loop-one-test.true first.0 first.2 unable),
            λ one. iff_through (so_far.1 one)
                (listed_passed_at query rows as_of stored i _ c.loop-one-test.true one unable),
          )
    ]
