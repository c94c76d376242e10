use Rattle.std.proofs.Common.{◌≡◌, ◌∙◌, sym, arith, length, take, drop, ◌-◌, ◌∷◌, List}
use Rattle.std.proofs.lemmas.List.{drop_more, take_rest}
use Rattle.cube_model.specs.declared.query.Cond.{Cond}
use Rattle.lattice.proofs.Needing.{none_first, none_others}
use Rattle.lattice.proofs.needed.+with_conditions.Goals as goal

pub returns-in-Some-clause-none : goal.returns-in-Some-clause-none
returns-in-Some-clause-none t c =
    let conditions = c.args.conditions.now in
    let first = c.condition-item.result in
    let others = take (length conditions - 1) (drop 1 conditions) in
    let whole : conditions ≡ first ∷ others =
    drop_more conditions 0 first (omega (arith, c.in-len1-up.len_at_least))
    ∙ (λ i. sym c.condition-item.is i ∷ sym (take_rest conditions 1) i) in
    none_others first others conditions c.with_conditions.result whole c.with_conditions.ensures.none

pub returns-in-None-clause-none : goal.returns-in-None-clause-none
returns-in-None-clause-none t c =
    let conditions = c.args.conditions.now in
    let first = c.condition-item.result in
    let others = take (length conditions - 1) (drop 1 conditions) in
    let whole : conditions ≡ first ∷ others =
    drop_more conditions 0 first (omega (arith, c.in-len1-up.len_at_least))
    ∙ (λ i. sym c.condition-item.is i ∷ sym (take_rest conditions 1) i) in
    none_first first others conditions whole c.in-None.ensures.none
