use Rattle.view_choice.specs.Cuboids.{cuboids_for}
use Rattle.view_choice.proofs.Guarantee.{guaranteed}
use Rattle.view_choice.proofs.choice.greedy_for.Goals as goal

pub returns-clause-guarantee : goal.returns-clause-guarantee
returns-clause-guarantee c = λ positive. guaranteed (cuboids_for c.args.rows c.args.counts.now c.args.demanded.now)
    c.args.k c.choose_best.result positive c.choose_best.ensures.ok
