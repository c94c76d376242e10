use Rattle.std.proofs.Common.{◌≡◌, ◌<ℤ◌, ℤ, of_z, rules, subst, to_z}
use Rattle.std.specs.Int.{w128}
use Rattle.column_kernels.proofs.ExtremesLemmas.{none_found}
use Rattle.column_kernels.proofs.extremes.Extremes.found.Goals as goal

pub returns-then-are_turned : goal.returns-then-are_turned
returns-then-are_turned c = λ numbers is.
    let least : to_z w128 (of_z w128 c.args.self.least) ≡ c.args.self.least = search rules in
    let greatest : to_z w128 (of_z w128 c.args.self.greatest) ≡ c.args.self.greatest = search rules in
    let turned : to_z w128 (of_z w128 c.args.self.greatest) <ℤ to_z w128 (of_z w128 c.args.self.least) =
    c.are_turned.ensures.0 c.if-are_turned.true in
    none_found numbers c.args.self
    (subst (λ (z : ℤ). z <ℤ c.args.self.least) greatest
    (subst (λ (z : ℤ). to_z w128 (of_z w128 c.args.self.greatest) <ℤ z) least turned)) is
