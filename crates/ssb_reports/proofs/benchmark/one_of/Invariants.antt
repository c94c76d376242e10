use Rattle.std.proofs.Common.{◌≡◌, map, take}
use Rattle.ssb_reports.proofs.benchmark.one_of.Given as goal

abbrev pub invariant-loop-text : goal.invariant-loop-text
invariant-loop-text l = l.list ≡ map (λ text. text.now) (take l.text-index l.texts)
