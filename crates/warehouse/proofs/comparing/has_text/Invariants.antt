use Rattle.std.proofs.Common.{◌-◌, ◌≤◌, length}
use Rattle.warehouse.proofs.Compared.{AgreeUpTo}
use Rattle.wire.specs.Runs.{HasRead}
use Rattle.warehouse.proofs.comparing.has_text.Given as goal

abbrev pub invariant-loop-at : goal.invariant-loop-at
invariant-loop-at g l = record {
  within : l.at ≤ length l.bytes;
  read : HasRead g.S.Source l.initial.source l.source;
  so_far : g.S.Source.keeps_word l.source → AgreeUpTo (g.S.Source.texts l.initial.source l.id) l.bytes l.at;
}

abbrev pub decreases-loop-at : goal.decreases-loop-at
decreases-loop-at g l = length l.bytes - l.at
