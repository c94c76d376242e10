use Rattle.std.proofs.Common.{◌≡◌, map, take}
use Rattle.partial_reports.specs.declared.words.WordKind.TheVariants.{If}
use Rattle.report_merge.specs.Given.{AreUtf8}
use Rattle.report_merge.proofs.words.conditions_in.Given as goal

abbrev pub invariant-loop-word : goal.invariant-loop-word
invariant-loop-word l = record {
  are : take l.word-index l.words ≡ map (λ text. record { kind = If; text = text })
      (map (λ text. text.now) l.texts.items);
  utf8 : AreUtf8 (take l.word-index l.words);
}
