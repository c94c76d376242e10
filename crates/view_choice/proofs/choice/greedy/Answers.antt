use Rattle.std.proofs.Common.{◌∙◌, subst, List, IfOk}
use Rattle.lattice.specs.declared.view.View.{View}
use Rattle.view_choice.specs.declared.ties.Ties.TheVariants.{ToLeast}
use Rattle.view_choice.specs.Choice.{IsGreedy}
use Rattle.view_choice.specs.Cuboids.{cuboids, cuboids_by}
use Rattle.view_choice.proofs.Guarantee.{guaranteed}
use Rattle.view_choice.proofs.choice.greedy.Goals as goal

pub returns-clause-guarantee : goal.returns-clause-guarantee
returns-clause-guarantee c =
    λ positive. guaranteed (cuboids c.args.rows c.args.counts.now) c.args.k c.choose_best.result positive
    (subst (λ (asked : List View). IfOk c.choose_best.result
    (λ chosen. IsGreedy (cuboids_by ToLeast c.args.rows c.args.counts.now asked) c.args.k chosen.items))
    (c.as_slice.ensures.value ∙ c.in_ok-demanded.ensures) c.choose_best.ensures.ok)
