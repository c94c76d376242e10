use Rattle.std.proofs.Common.{◌≡◌, ◌-◌, ◌≤◌, ℕ, List, drop, length, take}
use Rattle.stored_rows.specs.Passing.{BeginsWithTexts, window_bytes}
use Rattle.stored_rows.proofs.window.pass_texts.Given as goal

abbrev pub invariant-loop-texts : goal.invariant-loop-texts
invariant-loop-texts l = record {
  few : l.texts ≤ l.wanted;
  within : l.bytes ≤ length l.window;
  first : l.texts ≡ 0 → l.bytes ≡ 0;
  passed : (all rest : List ℕ) → l.window ≡ take window_bytes all → BeginsWithTexts l.wanted all rest
      → BeginsWithTexts (l.wanted - l.texts) (drop l.bytes all) rest;
}

abbrev pub decreases-loop-texts : goal.decreases-loop-texts
decreases-loop-texts l = l.wanted - l.texts
