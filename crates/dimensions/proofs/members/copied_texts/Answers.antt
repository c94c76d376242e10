use Rattle.std.proofs.Common.{◌∙◌, ap, sym}
use Rattle.std.specs.Option.{option_map}
use Rattle.dimensions.proofs.RankLaws.{copy_more}
use Rattle.dimensions.proofs.members.copied_texts.Goals as goal

pub loop-code-preserved : goal.loop-code-preserved
loop-code-preserved c = copy_more c.args.dictionary.now.texts c.loop-code.texts.items c.push.new.self.items
    c.loop-code.code c.unwrap-text.result.now c.loop-code.invariant
    (sym c.text.ensures.text ∙ ap (option_map (λ text. text.now)) c.unwrap-text.ensures)
    (rw (← c.in_ok-from_slice.ensures.items, ← c.from_vec.ensures) c.in_ok-push.ensures.items)
