use Rattle.std.proofs.Common.{◌≡◌, ◌-◌, ◌≤◌, Some, take, length, option_map}
use Rattle.wire.specs.Runs.{HasRead}
use Rattle.wire.proofs.whole.read_to_end.Given as goal

abbrev pub decreases-loop-at : goal.decreases-loop-at
decreases-loop-at g l = l.total - l.at

abbrev pub invariant-loop-at : goal.invariant-loop-at
invariant-loop-at g l = record {
  within : l.at ≤ l.total;
  read : HasRead g.S.Source l.initial.source l.source;
  so_far : g.S.Source.keeps_word l.source
      → g.S.Source.totals l.initial.source l.id ≡ option_map length (g.S.Source.texts l.initial.source l.id)
      → option_map (take l.at) (g.S.Source.texts l.initial.source l.id) ≡ Some l.out.items;
}
