use Rattle.std.proofs.Common.{◌≡◌, ◌≤◌, ◌<◌, ℕ, [], length, reverse, get_or, slice_index, ◌∙◌, ap, arith}
use Rattle.std.proofs.lemmas.List.{length-reverse}
use Rattle.sector_device.specs.Memory.{candidates, replaced}
use Rattle.sector_device.proofs.PickSteps.{length-replaced, names, images}
use Rattle.sector_device.proofs.crash.take_picks.Goals as goal

pub count_undone-requires : goal.count_undone-requires
count_undone-requires c i lt =
    let log = reverse c.args.log.now in
    let few = length-replaced log i in
    let is : slice_index c.count_replaced.new.counts i ≡ length (replaced log i) =
    c.count_replaced.ensures i (omega (arith, lt)) in
    omega (arith, few, is, length-reverse c.args.log.now)

pub returns-clause-image : goal.returns-clause-image
returns-clause-image c =
    let log = reverse c.args.log.now in
    let enough : (i : ℕ) → i < length c.args.sectors.now
    → slice_index c.count_undone.new.counts i ≤ length (replaced log i) = λ i lt.
    omega (arith, c.count_undone.ensures i (omega (arith, lt)), c.count_replaced.ensures i (omega (arith, lt))) in
    images c.args.sectors.now c.undo_writes.new.sectors log c.count_undone.new.counts (omega arith) enough
    c.undo_writes.ensures

pub returns-clause-named : goal.returns-clause-named
returns-clause-named c i lt =
    let log = reverse c.args.log.now in
    c.undo_writes.ensures i lt
    ∙ ap (λ (k : ℕ). get_or (candidates c.args.sectors.now log i) k []) (c.count_undone.ensures i (omega (arith, lt)))
    ∙ names c.args.sectors.now log c.count_replaced.new.counts (length c.args.room.now) c.count_replaced.ensures
    c.args.picks.now i (omega (arith, lt))
