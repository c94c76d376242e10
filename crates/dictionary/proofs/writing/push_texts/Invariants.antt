use Rattle.std.proofs.Common.{◌≡◌, ◌++◌, map, take}
use Rattle.std.specs.List.{flat_map}
use Rattle.dictionary.specs.Spelling.{text_spelling}
use Rattle.dictionary.proofs.writing.push_texts.Given as goal

abbrev pub invariant-loop-text : goal.invariant-loop-text
invariant-loop-text l = l.out.items ≡ l.initial.out.items
    ++ flat_map text_spelling (map (λ text. text.items) (take l.text-index l.texts))
