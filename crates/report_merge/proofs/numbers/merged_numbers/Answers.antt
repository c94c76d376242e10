use Rattle.std.proofs.Common.{◌≡◌, ◌++◌, true, sym, subst, rules, arith, List, ℕ}
use Rattle.partial_reports.specs.Head.{ascend_between}
use Rattle.std.specs.List.Sorted.{IsPermutation}
use Rattle.std.proofs.lemmas.Grind.{common_steps}
use Rattle.std.proofs.lemmas.List.Sorted.{IsNonDecreasingBy-from_sort}
use Rattle.report_merge.proofs.NumbersLemmas.{increase, merged_ascend}
use Rattle.report_merge.proofs.numbers.merged_numbers.Goals as goal

pub first_in_both-requires : goal.first_in_both-requires
first_in_both-requires c = increase 0 c.args.parts c.args.ones.now c.requires.ones

pub returns-clause-ascend : goal.returns-clause-ascend
returns-clause-ascend c =
    let found = c.sort_unstable.new.self.items in
    let moved : IsPermutation (c.args.ones.now ++ c.args.others.now) found =
    first_of (search rules, grind (arith, common_steps)) in
    let rises = IsNonDecreasingBy-from_sort (λ x. x) found c.sort_unstable.ensures.sorted in
    let ascend = merged_ascend c.args.parts c.args.ones.now c.args.others.now found c.requires.ones c.requires.others
    c.in_default.ensures.none moved rises in
    subst (λ (all : List ℕ). ascend_between 0 c.args.parts all ≡ true) (sym c.from_vec.ensures) ascend
