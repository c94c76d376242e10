use Rattle.std.proofs.Common.{refl, inr, subst, sym, arith}
use Rattle.extents.specs.Runs.{IsRest}
use Rattle.extents.proofs.GapsLemmas.{AreRuns-gaps_of, IsRest-gaps_of, AreLaidOut-from_order, order_from_layout}
use Rattle.extents.proofs.GapsLemmas.{in_order_at_end, gaps_at_end, next_in_order}
use Rattle.extents.proofs.gaps.gaps.Goals as goal
use Rattle.extents.proofs.gaps.gaps.Goals.{then-extent-eq0-via-then-extent-eq0}
use Rattle.extents.proofs.gaps.gaps.Goals.{then-extent-eq0-via-else-extent-eq0+then-extent-from}
use Rattle.extents.proofs.gaps.gaps.Goals.{then-extent-eq0-via-else-extent-eq0+else-extent-from+then-end-from}

-- were the extents laid out, the walk would be in order here
pub returns-then-extent-eq0-clause-refused : goal.returns-then-extent-eq0-clause-refused
returns-then-extent-eq0-clause-refused c = inr (
  refl,
  λ ok.
      let walk = c.loop-extent.invariant.onward (order_from_layout c.args.count c.args.sorted.now c.requires ok) in
      let next = next_in_order c.args.count c.loop-extent.from c.loop-extent.extent-index c.args.sorted.now
      c.loop-extent-test.true walk (record { first = 0; len = 0 }) in
      elim c.then-extent-eq0.branch [
        | then-extent-eq0-via-then-extent-eq0 w ↦ omega arith
        | then-extent-eq0-via-else-extent-eq0+then-extent-from w ↦ omega arith
        | then-extent-eq0-via-else-extent-eq0+else-extent-from+then-end-from w ↦ omega arith
      ],
)

-- the walk at its end
pub returns-clause-runs : goal.returns-clause-runs
returns-clause-runs c =
    let end = gaps_at_end c.args.count c.loop-extent.from c.loop-extent.extent-index c.args.sorted.now
    c.loop-extent.runs.items c.push_gap-2.new.runs.items c.loop-extent-test.false c.loop-extent.invariant.so_far
    c.in_ok-push_gap-2.ensures.ok in
    let walk = c.loop-extent.invariant.back
    (in_order_at_end c.args.count c.loop-extent.from c.loop-extent.extent-index c.args.sorted.now
    c.loop-extent-test.false) in
    rw end (AreRuns-gaps_of c.args.count 2 c.args.sorted.now walk)

pub returns-clause-rest : goal.returns-clause-rest
returns-clause-rest c =
    let end = gaps_at_end c.args.count c.loop-extent.from c.loop-extent.extent-index c.args.sorted.now
    c.loop-extent.runs.items c.push_gap-2.new.runs.items c.loop-extent-test.false c.loop-extent.invariant.so_far
    c.in_ok-push_gap-2.ensures.ok in
    let walk = c.loop-extent.invariant.back
    (in_order_at_end c.args.count c.loop-extent.from c.loop-extent.extent-index c.args.sorted.now
    c.loop-extent-test.false) in
    subst (IsRest c.args.count c.args.sorted.now) (sym end) (IsRest-gaps_of c.args.count c.args.sorted.now walk)

pub returns-clause-laid_out : goal.returns-clause-laid_out
returns-clause-laid_out c =
    AreLaidOut-from_order c.args.count c.args.sorted.now
    (c.loop-extent.invariant.back
    (in_order_at_end c.args.count c.loop-extent.from c.loop-extent.extent-index c.args.sorted.now
    c.loop-extent-test.false))
