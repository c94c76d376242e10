use Rattle.view_choice.specs.Costs.{gain_among}
use Rattle.view_choice.proofs.CostsLemmas.{IsBestSoFar}
use Rattle.view_choice.proofs.costs.first_greatest.Given as goal

abbrev pub invariant-loop-place : goal.invariant-loop-place
invariant-loop-place l = IsBestSoFar (gain_among l.all) l.candidates l.place l.best l.most
