use Rattle.std.proofs.Common.{refl}
use Rattle.batch_loader.proofs.LineFieldsLemmas.{AreBarsAfter-skip}
use Rattle.batch_loader.proofs.line_fields.bars.later_window.Goals as goal

pub loop-window-preserved : goal.loop-window-preserved
loop-window-preserved c =
    AreBarsAfter-skip c.args.text.now c.args.from c.loop-window.window.first c.loop-window.window.bars
    c.bars_at-bars.result _ c.loop-window-test.true refl c.bars_at-bars.ensures c.loop-window.invariant
