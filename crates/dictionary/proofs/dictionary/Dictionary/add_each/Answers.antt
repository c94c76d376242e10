use Rattle.std.proofs.Common.{◌≡◌, ◌∙◌, sym, ap, arith, List, ℕ, map, get_or}
use Rattle.std.proofs.lemmas.List.{length-map, get_or-map}
use Rattle.dictionary.proofs.DictionaryLemmas.{copy_more}
use Rattle.dictionary.proofs.dictionary.Dictionary.add_each.Goals as goal

pub loop-text-preserved : goal.loop-text-preserved
loop-text-preserved c =
    let all : List (List ℕ) = map (λ text. text.items) c.args.texts.now in
    let count = length-map c.args.texts.now (λ text. text.items) in
    let at : get_or all c.loop-text.text-index c.deref.result.now ≡ c.deref.result.now =
    get_or-map (λ text. text.items) c.args.texts.now c.loop-text.text-index c.text-item.result c.deref.result.now
    c.loop-text-test.true ∙ ap (λ text. text.items) (sym c.text-item.is) ∙ sym c.deref.ensures.value in
    copy_more all c.args.self.now.limit c.loop-text.text-index c.deref.result.now c.loop-text.self c.add_unkept.new.self
    c.in_ok-add_unkept.field-0 c.requires.once
    (omega (arith, count, c.requires.few)) (omega (arith, count, c.loop-text-test.true)) at c.loop-text.invariant
    c.in_ok-add_unkept.ensures.ok
