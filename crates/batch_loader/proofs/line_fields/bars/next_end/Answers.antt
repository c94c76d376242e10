use Rattle.std.proofs.Common.{arith, length}
use Rattle.batch_loader.proofs.LineFieldsLemmas.{bar_from-none, still_within}
use Rattle.batch_loader.proofs.line_fields.bars.next_end.Goals as goal

pub overflow_add-result : goal.overflow_add-result
overflow_add-result c =
    let ends = c.lowest_bar-bit.ensures c.args.text.now c.args.from
    (c.requires.bars
    (still_within c.args.from (length c.args.text.now) c.args.window.bars c.requires.past c.if-window-ne0.true)) in
    omega (arith, ends.within)

pub overflow_add-result-2 : goal.overflow_add-result-2
overflow_add-result-2 c =
    omega (arith, (c.lowest_bar-bit-2.ensures c.args.text.now c.args.from c.later_window-window.ensures.bars).within)

pub returns-then-window-ne0 : goal.returns-then-window-ne0
returns-then-window-ne0 c =
    c.lowest_bar-bit.ensures c.args.text.now c.args.from
    (c.requires.bars
    (still_within c.args.from (length c.args.text.now) c.args.window.bars c.requires.past c.if-window-ne0.true))

pub returns-then-window-eq0 : goal.returns-then-window-eq0
returns-then-window-eq0 c = record {
  start = omega arith;
  end_is = bar_from-none c.args.text.now c.args.from c.later_window-window.result.first
      c.later_window-window.result.bars (omega arith) c.if-window-eq0.true
      (c.later_window-window.ensures.none c.if-window-eq0.true) c.later_window-window.ensures.bars;
  within = omega arith;
  bars_after = λ less. absurd (omega (arith, less));
  none = λ past. c.if-window-eq0.true;
}

pub returns : goal.returns
returns c = c.lowest_bar-bit-2.ensures c.args.text.now c.args.from c.later_window-window.ensures.bars
