use Rattle.std.proofs.Common.{◌≡◌, ◌<◌, ◌≤◌, length}
use Rattle.batch_loader.specs.Bars.{AreBarsAfter}
use Rattle.batch_loader.proofs.LineFieldsLemmas.{IsSplitting}
use Rattle.batch_loader.proofs.line_fields.split.split.Given as goal

abbrev pub invariant-loop-place : goal.invariant-loop-place
invariant-loop-place g l = record {
  splitting : IsSplitting l.place-end l.text l.ends l.place l.from;
  bars : l.from ≤ length l.text → AreBarsAfter l.text l.from l.window.first l.window.bars;
  past : length l.text < l.from → l.window.bars ≡ 0;
}
