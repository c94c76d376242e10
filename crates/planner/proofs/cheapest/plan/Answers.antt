use Rattle.std.proofs.Common.{◌≡◌, ◌+◌, ◌⊎◌, [], take, ap, subst, sym}
use Rattle.std.proofs.lemmas.List.{take_all}
use Rattle.planner.specs.declared.price.AccessPath.{AccessPath}
use Rattle.planner.specs.declared.price.Priced.{Priced}
use Rattle.planner.specs.Plans.{ComesFirst, IsCheapest}
use Rattle.planner.proofs.Taken.{untrue, passed_at, taken_at, scan_alone}
use Rattle.planner.proofs.cheapest.plan.Goals as goal
use Rattle.planner.proofs.cheapest.plan.Goals.{then-serves, else-serves}

pub loop-one-init : goal.loop-one-init
loop-one-init c =
    subst (λ (best : Priced). IsCheapest c.args.query.now [] c.args.batch_rows.now c.args.as_of best.plan best.cost)
    (sym c.by_scan-best.ensures) (scan_alone c.args.query.now c.args.batch_rows.now c.args.as_of)

pub loop-one-preserved : goal.loop-one-preserved
loop-one-preserved c = elim c.if-serves.branch [
  | then-serves w ↦
      subst (λ (best : Priced). IsCheapest c.args.query.now (take (c.loop-one.one-index + 1) c.args.stored.now)
      c.args.batch_rows.now c.args.as_of best.plan best.cost)
      (sym w.best-is)
      (taken_at c.args.query.now c.args.batch_rows.now c.args.as_of c.args.stored.now c.loop-one.one-index _
      c.loop-one-test.true
      c.loop-one.best w.better-best.result w.by_cells.result.cost
      (ap (λ (other : Priced). other.cost) w.by_cells.ensures)
      (c.serves.ensures.0 w.if-serves.true) c.loop-one.invariant
      (subst (λ (plan : AccessPath). (w.better-best.result ≡ c.loop-one.best)
      ⊎ (w.better-best.result ≡ record { plan = plan; cost = w.by_cells.result.cost }))
      (ap (λ (other : Priced). other.plan) w.by_cells.ensures) w.better-best.ensures.one)
      w.better-best.ensures.before_best
      (subst (λ (plan : AccessPath). ComesFirst w.better-best.result
      (record { plan = plan; cost = w.by_cells.result.cost }))
      (ap (λ (other : Priced). other.plan) w.by_cells.ensures) w.better-best.ensures.before_other))
  | else-serves w ↦
      subst (λ (best : Priced). IsCheapest c.args.query.now (take (c.loop-one.one-index + 1) c.args.stored.now)
      c.args.batch_rows.now c.args.as_of best.plan best.cost)
      (sym w.best-is)
      (passed_at c.args.query.now c.args.batch_rows.now c.args.as_of c.args.stored.now c.loop-one.one-index _
      c.loop-one-test.true
      c.loop-one.best c.loop-one.invariant
      (λ serves. untrue c.serves.result (c.serves.ensures.1 serves) w.if-serves.false))
]

pub returns : goal.returns
returns c = (
  c.loop-one.best.cost,
  subst (λ stored. IsCheapest c.args.query.now stored c.args.batch_rows.now c.args.as_of c.loop-one.best.plan
      c.loop-one.best.cost)
      (take_all c.loop-one.one-index c.args.stored.now c.loop-one-test.false) c.loop-one.invariant,
)
