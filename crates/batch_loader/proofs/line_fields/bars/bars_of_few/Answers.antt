use Rattle.std.proofs.Common.{subst, sym, ◌+◌}
use Rattle.batch_loader.proofs.LineFieldsLemmas.{AreBarsUpTo, AreBarsUpTo-bar, AreBarsUpTo-other, AreBarsUpTo-all}
use Rattle.batch_loader.proofs.line_fields.bars.bars_of_few.Goals as goal
use Rattle.batch_loader.proofs.line_fields.bars.bars_of_few.Goals.{then-text-place-eq124, else-text-place-eq124}

pub returns : goal.returns
returns c = λ k below. AreBarsUpTo-all c.args.text.now c.args.first c.loop-place.place c.loop-place.bars
    c.loop-place-test.false c.loop-place.invariant k

pub loop-place-preserved : goal.loop-place-preserved
loop-place-preserved c =
    elim c.if-text-place-eq124.branch [
      | then-text-place-eq124 w ↦
          subst (AreBarsUpTo c.args.text.now c.args.first (c.loop-place.place + 1)) (sym w.bars-is)
          (AreBarsUpTo-bar c.args.text.now c.args.first c.loop-place.place c.loop-place.bars w.with_bit-bars.result
          c.loop-place.auto.place w.if-text-place-eq124.true w.with_bit-bars.ensures.same
          w.with_bit-bars.ensures.others c.loop-place.invariant)
      | else-text-place-eq124 w ↦
          subst (AreBarsUpTo c.args.text.now c.args.first (c.loop-place.place + 1)) (sym w.bars-is)
          (AreBarsUpTo-other c.args.text.now c.args.first c.loop-place.place c.loop-place.bars
          w.if-text-place-eq124.false c.loop-place.invariant)
    ]
