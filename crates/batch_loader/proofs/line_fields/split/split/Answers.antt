use Rattle.std.proofs.Common.{arith, ◌∙◌, ap, sym}
use Rattle.batch_loader.specs.Fields.{first_parts, between_bars}
use Rattle.batch_loader.proofs.LineFieldsLemmas.{IsSplitting-next, IsSplitting-end, IsSplitting-more, IsSplitting-none}
use Rattle.batch_loader.proofs.line_fields.split.split.Goals as goal

pub loop-place-preserved : goal.loop-place-preserved
loop-place-preserved g c = record {
  splitting = IsSplitting-next g.row.N c.without_cr-text.result.now c.loop-place.ends c.loop-place.place
      c.loop-place.from c.in-Some.end
      c.loop-place-test.true c.in-Some.ensures.start c.in-Some.ensures.end_is c.in-Some.ensures.within
      c.loop-place.invariant.splitting;
  bars = λ within. c.in-Some.ensures.bars_after (omega arith);
  past = λ after. c.in-Some.ensures.none (omega arith);
}

pub returns-in_default-clause-split : goal.returns-in_default-clause-split
returns-in_default-clause-split g c =
    ap (λ text. first_parts g.row.N (between_bars text)) (sym c.without_cr-text.ensures)
    ∙ IsSplitting-none g.row.N c.without_cr-text.result.now c.loop-place.ends c.loop-place.place c.loop-place.from
    c.loop-place-test.true c.in_default.ensures c.loop-place.invariant.splitting

pub returns-then-from-text-clause-split : goal.returns-then-from-text-clause-split
returns-then-from-text-clause-split g c =
    ap (λ text. first_parts g.row.N (between_bars text)) (sym c.without_cr-text.ensures)
    ∙ IsSplitting-more g.row.N c.without_cr-text.result.now c.loop-place.ends c.loop-place.place c.loop-place.from
    (omega (arith, c.loop-place-test.false)) c.if-from-text.true c.loop-place.invariant.splitting

pub returns-clause-within : goal.returns-clause-within
returns-clause-within g c =
    λ k below. c.loop-place.invariant.splitting.within k
    (omega (arith, c.loop-place.invariant.splitting.count, c.loop-place-test.false))

pub returns-clause-split : goal.returns-clause-split
returns-clause-split g c =
    ap (λ text. first_parts g.row.N (between_bars text)) (sym c.without_cr-text.ensures)
    ∙ IsSplitting-end g.row.N c.without_cr-text.result.now c.loop-place.ends c.loop-place.place c.loop-place.from
    (omega (arith, c.loop-place-test.false)) (omega (arith, c.if-from-text.false)) c.loop-place.invariant.splitting
