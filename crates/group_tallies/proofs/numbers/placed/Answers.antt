use Rattle.std.proofs.Common.{◌∙◌}
use Rattle.group_tallies.proofs.Numbering.{placed_more}
use Rattle.group_tallies.proofs.numbers.placed.Goals as goal

pub loop-place-preserved : goal.loop-place-preserved
loop-place-preserved c =
    c.in_ok-push.ensures.items
    ∙ placed_more c.args.numbers.now c.loop-place.place c.loop-place.entries.items c.requires.once
    c.loop-place-test.true c.loop-place.invariant
