use Rattle.std.proofs.Common.{◌≡◌, ◌∙◌, sym, arith, length, take, drop, ◌-◌, ◌∷◌}
use Rattle.std.proofs.lemmas.List.{drop_more, take_rest}
use Rattle.group_numbers.specs.GroupNumbers.{AreBounds, bounds_with}
use Rattle.group_numbers.proofs.Outcomes.{AreBounds-with}
use Rattle.group_numbers.proofs.bounds.Bounds.+of.Goals as goal

pub returns-in-len1-up : goal.returns-in-len1-up
returns-in-len1-up t c =
    let conditions = c.args.conditions.now in
    let first = c.condition-item.result in
    let others = take (length conditions - 1) (drop 1 conditions) in
    let whole : conditions ≡ first ∷ others =
    drop_more conditions 0 first (omega (arith, c.in-len1-up.len_at_least))
    ∙ (λ i. sym c.condition-item.is i ∷ sym (take_rest conditions 1) i) in
    let with : AreBounds (first ∷ others) (bounds_with c.of.result first) =
    AreBounds-with first others c.of.result c.of.ensures in
    λ row quantity discount. rw (whole, c.and.ensures) (with row quantity discount)
