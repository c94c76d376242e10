use Rattle.std.proofs.Common.{◌+◌, ◌≤◌, List, length, inl, inr, refl, sym, ap, subst, arith}
use Rattle.std.proofs.lemmas.Result.{err_from_is_err_and}
use Rattle.cube_model.specs.declared.fault.Fault.TheVariants.{TooManyCells}
use Rattle.cuboid_cells.specs.declared.cell.Cell.{Cell}
use Rattle.cuboid_cells.proofs.MergingLemmas.{Merging, all_out, are_proper, at_first, cannot_go_on, goes_on}
use Rattle.cuboid_cells.proofs.MergingLemmas.{has_too_many, leaves_less, none_left, stepped}
use Rattle.cuboid_cells.proofs.merging.merge_cells.Goals as goal
use Rattle.cuboid_cells.proofs.merging.merge_cells.Goals.{in-Some+in_ok-push, in_default}

pub loop-init : goal.loop-init
loop-init c = record {
  state = subst
      (λ (cells : List Cell). Merging c.args.view c.args.one.now c.args.other.now cells c.args.one.now c.args.other.now)
      (sym c.in_ok-cells.ensures.items)
      (at_first c.args.view c.args.one.now c.args.other.now c.requires.one c.requires.other);
  room = omega arith;
}

pub returns-in_err-step-clause-refused : goal.returns-in_err-step-clause-refused
returns-in_err-step-clause-refused c =
    let p = err_from_is_err_and c.from_residual-in_err-step.result c.from_residual-in_err-step.ensures.1 in
    let passes = cannot_go_on c.args.view c.args.one.now c.args.other.now c.loop.cells.items c.loop.left.now
    c.loop.right.now c.loop.invariant.state c.in_err-step.ensures.refused.1 in
    rw (p.1, p.2, c.in_err-step.ensures.refused.0) (inr (inl (refl, passes)))

pub loop-preserved : goal.loop-preserved
loop-preserved c = elim c.match-branch-3.branch [
  | in-Some+in_ok-push w ↦
      let step = w.in-Some.step in
      let is = stepped c.loop.left.now c.loop.right.now c.in_ok-step.field-0 step w.in-Some.is
      c.in_ok-step.ensures.step in
      let went = goes_on c.args.view c.args.one.now c.args.other.now c.loop.cells.items c.loop.left.now c.loop.right.now
      step c.loop.invariant.state is in
      rw (w.cells-is, w.left-is, w.right-is) (record {
        state = subst
            (λ (cells : List Cell). Merging c.args.view c.args.one.now c.args.other.now cells step.one.now
            step.other.now) (sym w.in_ok-push.ensures.items) went;
        room = omega (arith, c.loop.invariant.room, leaves_less c.loop.left.now c.loop.right.now step is);
      })
  | in_default w ↦
      let none = none_left c.loop.left.now c.loop.right.now c.in_ok-step.field-0 w.in_default.is
      c.in_ok-step.ensures.step in
      rw (w.cells-is, w.left-is, w.right-is) (record {
        state = c.loop.invariant.state;
        room = omega (arith, ap length none.0, ap length none.1, c.loop-test.true);
      })
]

pub returns-then-len-gt-MOST_CELLS-clause-refused : goal.returns-then-len-gt-MOST_CELLS-clause-refused
returns-then-len-gt-MOST_CELLS-clause-refused c =
    let none : length c.loop.left.now + length c.loop.right.now ≤ 0 =
    omega (arith, c.loop.invariant.room, c.loop-test.false) in
    let are = all_out c.args.view c.args.one.now c.args.other.now c.loop.cells.items c.loop.left.now c.loop.right.now
    none c.loop.invariant.state in
    inr (inr (
      ap TooManyCells c.index.ensures,
      has_too_many c.args.view c.args.one.now c.args.other.now
          c.loop.cells.items are (omega (arith, c.if-len-gt-MOST_CELLS.true, c.len.ensures)),
    ))

pub returns-clause-ok : goal.returns-clause-ok
returns-clause-ok c =
    let none : length c.loop.left.now + length c.loop.right.now ≤ 0 =
    omega (arith, c.loop.invariant.room, c.loop-test.false) in
    (all_out c.args.view c.args.one.now c.args.other.now c.loop.cells.items c.loop.left.now c.loop.right.now none
    c.loop.invariant.state).merge

pub returns-clause-proper : goal.returns-clause-proper
returns-clause-proper c =
    let none : length c.loop.left.now + length c.loop.right.now ≤ 0 =
    omega (arith, c.loop.invariant.room, c.loop-test.false) in
    let are = all_out c.args.view c.args.one.now c.args.other.now c.loop.cells.items c.loop.left.now c.loop.right.now
    none c.loop.invariant.state in
    are_proper c.args.view c.args.one.now c.args.other.now c.loop.cells.items are
    (omega (arith, c.if-len-gt-MOST_CELLS.false, c.len.ensures))
