use Rattle.std.proofs.Common.{subst}
use Rattle.std.specs.List.Sorted.{IsPermutation}
use Rattle.group_tallies.proofs.Numbering.{sorted_entries}
use Rattle.group_tallies.proofs.numbers.sorted_entries.Goals as goal

pub returns : goal.returns
returns c =
    let numbers = c.args.numbers.now in
    let entries = c.sort_unstable.new.self.items in
    let moved =
    subst (λ first. IsPermutation first entries) c.in_ok-entries.ensures c.sort_unstable.ensures.permutation in
    sorted_entries numbers entries c.requires.once moved c.sort_unstable.ensures.sorted
