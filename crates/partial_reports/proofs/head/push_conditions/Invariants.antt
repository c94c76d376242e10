use Rattle.std.proofs.Common.{◌≡◌, ◌++◌, map, take}
use Rattle.partial_reports.specs.declared.words.WordKind.TheVariants.{If}
use Rattle.partial_reports.proofs.head.push_conditions.Given as goal

abbrev pub invariant-loop-condition : goal.invariant-loop-condition
invariant-loop-condition l = l.words ≡ l.initial.words ++ map (λ text. record { kind = If; text = text })
    (map (λ word. word.now) (take l.condition-index l.conditions))
