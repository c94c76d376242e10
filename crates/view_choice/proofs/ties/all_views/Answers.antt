use Rattle.std.proofs.Common.{◌∙◌, ◌<◌, length, ap, sym, arith}
use Rattle.lattice.specs.Sizes.{lattice_of}
use Rattle.view_choice.proofs.Steps.{push_view, some_view}
use Rattle.view_choice.proofs.ties.all_views.Goals as goal
use Rattle.view_choice.proofs.ties.all_views.Goals.{in-Some+in_ok-push, in_default}

-- one view more
pub loop-index-preserved : goal.loop-index-preserved
loop-index-preserved c =
    let inside : c.loop-index.index < length (lattice_of c.args.counts.now) =
    omega (arith, c.loop-index-test.true, c.view_count-index-end.ensures) in
    elim c.match-view.branch [
      | in-Some+in_ok-push w ↦ ap (λ v. v.items) w.views-is ∙ w.in_ok-push.ensures.items
          ∙ push_view c.args.counts.now c.loop-index.index w.in-Some.view c.loop-index.views.items
          (sym w.in-Some.ensures) c.loop-index.invariant
      | in_default w ↦ absurd (some_view c.args.counts.now c.loop-index.index inside (sym w.in_default.ensures))
    ]
