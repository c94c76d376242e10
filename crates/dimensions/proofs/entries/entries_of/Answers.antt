use Rattle.std.proofs.Common.{◌≡◌, arith, length}
use Rattle.dimensions.proofs.EntryLaws.{entries_step, rows_entered}
use Rattle.dimensions.proofs.entries.entries_of.Goals as goal

pub loop-row-preserved : goal.loop-row-preserved
loop-row-preserved c =
    let long : length c.loop-row.entries.items ≡ c.args.width =
    omega (arith, c.loop-row.entries.ok.0, c.loop-row.invariant.0) in
    let step = entries_step c.args.keys.now c.args.first c.args.width c.loop-row.row c.loop-row.entries.items
    c.set_entry.new.entries.items
    long c.loop-row-test.true c.requires.within c.set_entry.ensures c.loop-row.invariant.1 in
    (omega (arith, c.set_entry.new.entries.ok.0, step.0), step.1)

pub returns : goal.returns
returns c =
    rows_entered c.args.keys.now c.args.first c.args.width c.loop-row.row c.loop-row.entries.items
    (omega (arith, c.loop-row.entries.ok.0, c.loop-row.invariant.0)) (omega arith) c.requires.within
    c.loop-row.invariant.1
