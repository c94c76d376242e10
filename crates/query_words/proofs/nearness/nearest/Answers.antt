use Rattle.std.proofs.Common.{refl, [], inl, inr}
use Rattle.query_words.proofs.NearnessLemmas.{begins, ends, steps}
use Rattle.query_words.proofs.nearness.nearest.Goals.{then-edits-least, else-edits-least}
use Rattle.query_words.proofs.nearness.nearest.Goals as goal

pub loop-name-init : goal.loop-name-init
loop-name-init c = begins c.args.word.now c.args.names.now _ refl

pub loop-name-preserved : goal.loop-name-preserved
loop-name-preserved c =
    steps c.args.word.now c.args.names.now c.loop-name.name-index c.loop-name.least c.loop-name.found
    (record { ref_ptr = (0, 0); now = [] }) c.in_ok-edits.edits c.loop-name-test.true c.in_ok-edits.ensures.value
    c.loop-name.invariant
    c.if-edits-least.least c.if-edits-least.found (elim c.if-edits-least.branch [
      | then-edits-least w ↦ inl (w.if-edits-least.true, w.least-is, w.found-is)
      | else-edits-least w ↦ inr (w.if-edits-least.false, w.least-is, w.found-is)
    ])

pub returns : goal.returns
returns c = ends c.args.word.now c.args.names.now c.loop-name.name-index c.loop-name.least c.loop-name.found
    c.loop-name-test.false c.loop-name.invariant
