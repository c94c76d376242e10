use Rattle.std.proofs.Common.{◌∙◌, ap}
use Rattle.group_tallies.specs.Columns.{tallies_at}
use Rattle.group_tallies.proofs.Columnwise.{no_columns-next}
use Rattle.group_tallies.proofs.columns.no_columns.Goals as goal

pub loop-agg-preserved : goal.loop-agg-preserved
loop-agg-preserved c = λ slot.
    ap (λ columns. tallies_at columns slot) c.in_ok-push.ensures.items
    ∙ no_columns-next c.args.aggs.now c.loop-agg.columns.items c.new.result c.loop-agg._agg-index slot
    c.loop-agg-test.true c.new.ensures.items (c.loop-agg.invariant slot)
