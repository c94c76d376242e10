use Rattle.std.proofs.Common.{◌-◌, length}
use Rattle.batch_loader.specs.Bars.{AreBarsAfter}
use Rattle.batch_loader.proofs.line_fields.bars.later_window.Given as goal

abbrev pub invariant-loop-window : goal.invariant-loop-window
invariant-loop-window l = AreBarsAfter l.text l.from l.window.first l.window.bars

abbrev pub decreases-loop-window : goal.decreases-loop-window
decreases-loop-window l = length l.text - l.window.first
