use Rattle.std.proofs.Common.{◌≤◌, sym, arith, append-nil, []}
use Rattle.mode_folds.proofs.parts.grow.Goals as goal

pub loop-init : goal.loop-init
loop-init c = record {
  grown = ([], sym (append-nil c.args.folds.now.items), tt);
  over = c.requires.over;
  queries = c.requires.queries;
  counted = omega (arith, c.len-counter.ensures);
}

pub returns-clause-ok : goal.returns-clause-ok
returns-clause-ok c = record {
  more = c.loop.invariant.grown.0;
  after = c.loop.invariant.grown.1;
  begin = c.loop.invariant.grown.2;
  counted = λ few.
      let up : c.len-counter.result ≤ c.args.count = omega (arith, few, c.len-counter.ensures) in
      omega (arith, c.loop.invariant.counted, c.loop-test.false, c.loop.auto.counter-end up);
}
