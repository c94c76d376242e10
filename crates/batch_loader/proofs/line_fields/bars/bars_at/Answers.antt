use Rattle.std.proofs.Common.{◌-◌, ◌∙◌, arith, length}
use Rattle.batch_loader.proofs.LineFieldsLemmas.{bits-last}
use Rattle.batch_loader.proofs.line_fields.bars.bars_at.Goals as goal

pub returns-then-text-ge-WIDTH : goal.returns-then-text-ge-WIDTH
returns-then-text-ge-WIDTH c = λ k below.
    c.shifted_down.ensures k
    ∙ bits-last c.args.text.now c.args.first (64 - (length c.args.text.now - c.args.first))
    c.bars_of_window-then-text-ge-WIDTH.result (omega (arith, c.bars_of_window-then-text-ge-WIDTH.type_inv))
    (omega arith) (omega arith)
    c.bars_of_window-then-text-ge-WIDTH.ensures k
