use Rattle.std.proofs.Common.{◌∙◌, ℤ, ◌+ℤ◌, sym, subst, rules, FitsSigned, w64}
use Rattle.std.specs.Int.{int_max, int_min}
use Rattle.std.proofs.lemmas.Int.{to_z-of_z}
use Rattle.cuboid_cells.proofs.After.{same_summary, two_passed}
use Rattle.cuboid_cells.proofs.summary.Summary.merge_in.Goals as goal

pub returns-clause-ok : goal.returns-clause-ok
returns-clause-ok c true_is =
    let sum = c.in-Some.ensures in
    let least_fits : FitsSigned w64 c.min-self.result = search rules in
    let greatest_fits : FitsSigned w64 c.max-self.result = search rules in
    let sum_fits : FitsSigned w64 c.args.self.now.sum = search rules in
    let other_sum_fits : FitsSigned w64 c.args.other.now.sum = search rules in
    let one_least : FitsSigned w64 c.args.self.now.least = search rules in
    let other_least : FitsSigned w64 c.args.other.now.least = search rules in
    let one_greatest : FitsSigned w64 c.args.self.now.greatest = search rules in
    let other_greatest : FitsSigned w64 c.args.other.now.greatest = search rules in
    same_summary _ _ _ _ _ _
    (to_z-of_z w64 c.in-Some.sum (subst (FitsSigned w64) (sym sum.1) sum.0) ∙ sum.1
    ∙ two_passed (λ (a b : ℤ). a +ℤ b) c.args.self.now.sum c.args.other.now.sum sum_fits other_sum_fits)
    (to_z-of_z w64 c.min-self.result least_fits ∙ c.min-self.ensures.value
    ∙ two_passed int_min c.args.self.now.least c.args.other.now.least one_least other_least)
    (to_z-of_z w64 c.max-self.result greatest_fits ∙ c.max-self.ensures.value
    ∙ two_passed int_max c.args.self.now.greatest c.args.other.now.greatest one_greatest other_greatest)
