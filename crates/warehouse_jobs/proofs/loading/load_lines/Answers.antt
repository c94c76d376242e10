use Rattle.std.proofs.Common.{◌≤◌, [], None, length, refl, arith}
use Rattle.warehouse_jobs.specs.Loading.{batches_of, with_batches}
use Rattle.warehouse_jobs.proofs.LoadingLemmas.{never_more, stepped, stepped-fault, stepped-last, through-none}
use Rattle.warehouse_jobs.proofs.LoadingLemmas.{after_batches, before_batches, no_key}
use Rattle.warehouse_jobs.proofs.Turns.{still}
use Rattle.warehouse_jobs.proofs.loading.load_lines.Goals as goal

pub loop-done-init : goal.loop-done-init
loop-done-init g c = record {
  fault = c.requires.fault;
  word = λ k. k;
  through = λ w text at left number k. (
    [],
    refl,
    through-none g.D.Sectors w c.args.first c.args.size text c.args.session.now (g.W.Write.contents c.args.out.now)
        c.args.lines.now c.requires.some left number at
        (still g.D.Sectors c.args.session.now w g.met.D.Sectors.only_now at),
  );
  unknown = λ w at k number none. no_key w.rows c.args.kept.now.unknown none;
}

pub returns-in-Ok-false-clause-loads : goal.returns-in-Ok-false-clause-loads
returns-in-Ok-false-clause-loads g c w text at left number k =
    let old = c.load_next.ensures.word k in
    let th = c.loop-done.invariant.through w text at left number old in
    stepped-last g.D.Sectors w c.args.first c.args.size text c.args.session.now c.loop-done.session
    c.load_next.new.session (g.W.Write.contents c.args.out.now) (g.W.Write.contents c.loop-done.out)
    (g.W.Write.contents c.load_next.new.out) c.loop-done.lines c.load_next.new.lines th.0 th.2 c.requires.some
    c.saturating_add-number.result
    (omega (arith, c.ranges.first.fits)) (omega (arith, c.saturating_add-number.ensures, th.1)) old c.load_next.result
    (c.load_next.ensures.steps (with_batches w c.args.first (batches_of th.0)) th.2.at k)
    _ c.in-Ok-false.is c.in-Ok-false.field-0-test (g.W.Write.contents c.end.new.out) _
    (λ here. c.end.ensures (with_batches w c.args.first (batches_of th.0)) here k)

pub returns-in-Err-clause-loads : goal.returns-in-Err-clause-loads
returns-in-Err-clause-loads g c w text at left number k =
    let old = c.load_next.ensures.word k in
    let th = c.loop-done.invariant.through w text at left number old in
    stepped-fault g.D.Sectors w c.args.first c.args.size text c.args.session.now c.loop-done.session
    c.load_next.new.session (g.W.Write.contents c.args.out.now) (g.W.Write.contents c.loop-done.out)
    (g.W.Write.contents c.load_next.new.out) c.loop-done.lines c.load_next.new.lines th.0 th.2 c.requires.some
    c.saturating_add-number.result
    (omega (arith, c.ranges.first.fits)) (omega (arith, c.saturating_add-number.ensures, th.1)) old c.load_next.result
    (c.load_next.ensures.steps (with_batches w c.args.first (batches_of th.0)) th.2.at k)
    _ c.in-Err.is

pub loop-done-preserved : goal.loop-done-preserved
loop-done-preserved g c = record {
  fault = c.in-Ok-true.ensures.fault;
  word = λ k. c.loop-done.invariant.word (c.load_next.ensures.word k);
  through = λ w text at left number k.
      let old = c.load_next.ensures.word k in
      let th = c.loop-done.invariant.through w text at left number old in
      stepped g.D.Sectors w c.args.first c.args.size text c.args.session.now c.loop-done.session c.load_next.new.session
      (g.W.Write.contents c.args.out.now) (g.W.Write.contents c.loop-done.out)
      (g.W.Write.contents c.load_next.new.out) c.loop-done.lines c.load_next.new.lines th.0 th.2 c.requires.some
      c.saturating_add-number.result
      (omega (arith, c.ranges.first.fits)) (omega (arith, c.saturating_add-number.ensures, th.1)) old c.load_next.result
      (c.load_next.ensures.steps (with_batches w c.args.first (batches_of th.0)) th.2.at k)
      _ c.in-Ok-true.is c.in-Ok-true.field-0-test c.loop-done.done th.1
      (λ v here. still g.D.Sectors c.load_next.new.session v g.met.D.Sectors.only_now here);
  unknown = λ w at k number none.
      let old = c.load_next.ensures.word k in
      let th = c.loop-done.invariant.through w None at tt number old in
      before_batches w c.args.first (batches_of th.0) c.load_next.new.kept.unknown
      (c.load_next.ensures.unknown (with_batches w c.args.first (batches_of th.0)) th.2.at k
      (after_batches w c.args.first (batches_of th.0) c.loop-done.kept.unknown
      (c.loop-done.invariant.unknown w at old number none)));
}

pub returns-clause-loads : goal.returns-clause-loads
returns-clause-loads g c w text at left number k =
    let th = c.loop-done.invariant.through w text at left number k in
    let many : 4097 ≤ length th.0 = omega (arith, th.1, c.loop-done-test.false) in
    absurd (never_more g.D.Sectors w c.args.first c.args.size text c.args.session.now c.loop-done.session
    (g.W.Write.contents c.args.out.now) (g.W.Write.contents c.loop-done.out) c.loop-done.lines th.0 c.requires.some
    th.2 c.requires.positive many k)

pub returns-in-Ok-false-clause-unknown : goal.returns-in-Ok-false-clause-unknown
returns-in-Ok-false-clause-unknown g c w at k number none =
    let old = c.load_next.ensures.word k in
    let th = c.loop-done.invariant.through w None at tt number old in
    before_batches w c.args.first (batches_of th.0) c.load_next.new.kept.unknown
    (c.load_next.ensures.unknown (with_batches w c.args.first (batches_of th.0)) th.2.at k
    (after_batches w c.args.first (batches_of th.0) c.loop-done.kept.unknown
    (c.loop-done.invariant.unknown w at old number none)))

pub returns-in-Err-clause-unknown : goal.returns-in-Err-clause-unknown
returns-in-Err-clause-unknown g c w at k number none =
    let old = c.load_next.ensures.word k in
    let th = c.loop-done.invariant.through w None at tt number old in
    before_batches w c.args.first (batches_of th.0) c.load_next.new.kept.unknown
    (c.load_next.ensures.unknown (with_batches w c.args.first (batches_of th.0)) th.2.at k
    (after_batches w c.args.first (batches_of th.0) c.loop-done.kept.unknown
    (c.loop-done.invariant.unknown w at old number none)))

pub returns-clause-unknown : goal.returns-clause-unknown
returns-clause-unknown g c w at k number none = c.loop-done.invariant.unknown w at k number none
