use Rattle.std.proofs.Common.{◌∙◌, ◌++◌, ◌+◌, ◌-◌, ◌∷◌, [], sym, ap, append_assoc}
use Rattle.group_tallies.specs.Slots.{numbers_from}
use Rattle.group_tallies.proofs.Placing.{numbers_from-next}
use Rattle.group_tallies.proofs.slots.direct_entries.Goals as goal

pub loop-number-preserved : goal.loop-number-preserved
loop-number-preserved c =
    let i = c.loop-number.number in
    let rest = numbers_from (i + 1) (c.args.count - (i + 1)) in
    ap (λ entries. entries ++ rest)
    (c.in_ok-push.ensures.items ∙ ap (λ number. c.loop-number.entries.items ++ (number, i) ∷ []) c.from.ensures)
    ∙ append_assoc c.loop-number.entries.items ((i, i) ∷ []) rest
    ∙ sym (ap (λ more. c.loop-number.entries.items ++ more) (numbers_from-next i c.args.count c.loop-number-test.true))
    ∙ c.loop-number.invariant
