use Rattle.std.proofs.Common.{◌≡◌, ◌≤◌, ℕ, List, Some, drop}
use Rattle.wire.specs.Runs.{HasRead}
use Rattle.stored_rows.specs.Passing.{BeginsWithTexts}
use Rattle.stored_rows.proofs.passing.after_texts.Given as goal

abbrev pub decreases-loop-left : goal.decreases-loop-left
decreases-loop-left g l = l.left

abbrev pub invariant-loop-left : goal.invariant-loop-left
invariant-loop-left g l = record {
  read : HasRead g.S.Source l.initial.source l.source;
  few : l.left ≤ l.count;
  passed : g.S.Source.keeps_word l.source → (text rest : List ℕ)
      → g.S.Source.texts l.initial.source l.id ≡ Some text → BeginsWithTexts l.count (drop l.from text) rest
      → BeginsWithTexts l.left (drop l.at text) rest;
}
