use Rattle.std.proofs.Common.{◌≡◌, ◌∷◌, ◌↔◌, ◌⊎◌, List, sym, subst}
use Rattle.std.specs.List.{Contains}
use Rattle.planner.specs.declared.price.Priced.{Priced}
use Rattle.planner.specs.Listed.{HasBetterFirst}
use Rattle.planner.specs.Plans.{ComesFirst}
use Rattle.planner.proofs.ListingLemmas.{first_put, put_before}
use Rattle.planner.proofs.listing.add.Goals as goal

pub returns-in_ok-insert-clause-each : goal.returns-in_ok-insert-clause-each
returns-in_ok-insert-clause-each c one =
    let items : c.insert.new.self.items ≡ c.args.other ∷ c.args.plans.now.items = c.in_ok-insert.ensures.items in
    subst (λ (items : List Priced). Contains items one ↔ (Contains c.args.plans.now.items one ⊎ (one ≡ c.args.other)))
    (sym items) (put_before c.args.plans.now.items c.args.other one)

pub returns-in_ok-insert-clause-first : goal.returns-in_ok-insert-clause-first
returns-in_ok-insert-clause-first c =
    let items : c.insert.new.self.items ≡ c.args.other ∷ c.args.plans.now.items = c.in_ok-insert.ensures.items in
    subst (HasBetterFirst c.args.plans.now.items c.args.other) (sym items)
    (first_put c.args.plans.now.items c.args.other _
    (subst (λ (plan : Priced). ComesFirst c.args.other plan) c.index.ensures
    (c.comes_before.ensures.yes c.if-comes_before.true)))
