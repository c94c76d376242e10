use Rattle.std.proofs.Common.{◌≡◌, ◌∷◌, [], ◌∙◌, ap, arith, reverse}
use Rattle.std.proofs.lemmas.List.{reverse-append}
use Rattle.sector_device.specs.declared.change.Change.{Change}
use Rattle.sector_device.specs.declared.change.Change.TheVariants.{Replaced}
use Rattle.sector_device.proofs.PickSteps.{room_for_one}
use Rattle.sector_device.proofs.crash.count_replaced.Goals as goal

pub overflow_add-counts : goal.overflow_add-counts
overflow_add-counts c =
    let earlier = c.in-Some.earlier.now in
    let last : reverse c.loop-last.rest.now ≡ Replaced c.in-Replaced.at c.in-Replaced.field-1 ∷ reverse earlier =
    ap reverse c.in-Some.ensures.cases.0 ∙ reverse-append earlier (c.in-Some.last.now ∷ [])
    ∙ ap (λ (x : Change). x ∷ reverse earlier) c.in-Replaced.is in
    let fits = room_for_one c.args.log.now c.loop-last.rest.now earlier c.in-Replaced.at _ c.in-Replaced.field-1 last
    (c.loop-last.invariant c.in-Replaced.at c.if-at-counts.true) in
    omega (arith, fits)
