use Rattle.std.proofs.Common.{arith}
use Rattle.batch_loader.proofs.LineFieldsLemmas.{IsNext-lowest, AreBarsAfter-next}
use Rattle.batch_loader.proofs.line_fields.bars.lowest_bar.Goals as goal

pub returns : goal.returns
returns c = λ text from after.
    let next = IsNext-lowest text from c.args.window.first c.args.window.bars c.lowest-bit.result
    c.lowest-bit.ensures.bound c.lowest-bit.ensures.set c.lowest-bit.ensures.below after in
    record {
      start = omega (arith, next.after, next.within);
      end_is = next.bar;
      within = omega (arith, next.within);
      bars_after = λ _. AreBarsAfter-next text from c.args.window.first c.args.window.bars c.without.result
          c.lowest-bit.result c.lowest-bit.ensures.bound c.lowest-bit.ensures.set c.lowest-bit.ensures.below
          c.without.ensures.same c.without.ensures.others after;
      none = λ past. absurd (omega (arith, past, next.within));
    }
