use Rattle.std.proofs.Common.{◌≡◌, ◌-◌, ap, arith, sym, subst}
use Rattle.wire.proofs.CallerLemmas.{HasRead-then}
use Rattle.cuboid_cells.specs.Pieces.{AreLeft, AreParted, RunPlace}
use Rattle.cuboid_cells.proofs.PiecesLemmas.{not_parted, refused_later}
use Rattle.cuboid_cells.proofs.pieces.RunReader.first_from.Goals as goal

pub loop-range-init : goal.loop-range-init
loop-range-init g c =
    let run = c.args.self.now in
    let done = ap (λ (r : RunPlace). r.done) c.self.view_is in
    let count = ap (λ (r : RunPlace). r.head.count) c.self.view_is in
    let one = c.in_ok-range.ensures in
    let two = c.in_ok-range-2.ensures in
    record {
      read = HasRead-then g.S.Source g.met.S.Source.reads_on c.args.source.now c.narrowed.new.source
          c.narrowed-2.new.source one.run two.run;
      from = omega (arith, one.from, two.from, done);
      order = two.order;
      to = omega (arith, one.to, two.to, count);
      parted = λ keeps left at.
          let text = g.S.Source.texts c.args.source.now run.id in
          let kept = two.run.stays.word keeps in
          let first = one.ok kept left at (not_parted text run left c.args.least _ _ done count at) in
          two.ok keeps left (subst (λ t. AreLeft t run left) (sym (one.run.stays.texts kept run.id)) at) first;
    }

pub returns-in_err-range-3-clause-run : goal.returns-in_err-range-3-clause-run
returns-in_err-range-3-clause-run g c =
    refused_later g.S.Source c.args.source.now c.loop-range.source c.narrowed-in-loop-range.new.source
    c.loop-range.invariant.read g.met.S.Source.fails_later
    c.from_residual-in_err-range-3.result _ c.from_residual-in_err-range-3.ensures.1 c.in_err-range-3.ensures.run

pub loop-range-preserved : goal.loop-range-preserved
loop-range-preserved g c =
    let run = c.args.self.now in
    let so_far = c.loop-range.invariant in
    let step = c.in_ok-range-3.ensures in
    record {
      read = HasRead-then g.S.Source g.met.S.Source.reads_on c.args.source.now c.loop-range.source
          c.narrowed-in-loop-range.new.source so_far.read step.run;
      from = omega (arith, so_far.from, step.from);
      order = step.order;
      to = omega (arith, so_far.to, step.to);
      parted = λ keeps left at.
          let kept = step.run.stays.word keeps in
          step.ok keeps left (subst (λ t. AreLeft t run left) (sym (so_far.read.stays.texts kept run.id)) at)
          (so_far.parted kept left at);
    }

pub returns-clause-ok : goal.returns-clause-ok
returns-clause-ok g c = λ keeps left at.
    let run = c.args.self.now in
    let so_far = c.loop-range.invariant in
    let same : c.loop-range.range.to ≡ c.loop-range.range.from = omega (arith, so_far.order, c.loop-range-test.false) in
    subst (λ n. AreParted c.args.least (c.loop-range.range.from - run.done) (n - run.done) left) same
    (so_far.parted keeps left at)
