use Rattle.std.proofs.Common.{◌≡◌, map, take}
use Rattle.dictionary.proofs.dictionary.Dictionary.add_each.Given as goal

abbrev pub invariant-loop-text : goal.invariant-loop-text
invariant-loop-text l = l.self ≡ record {
  texts = take l.text-index (map (λ text. text.items) l.texts);
  limit =
      l.fn.self.limit;
}
