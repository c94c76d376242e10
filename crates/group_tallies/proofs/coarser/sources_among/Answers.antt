use Rattle.std.proofs.Common.{◌∙◌, ◌<◌, ℕ, sym, subst}
use Rattle.std.specs.List.{All}
use Rattle.group_tallies.specs.Slots.{entries_of}
use Rattle.group_tallies.proofs.Seen.{each_number, All-numbers}
use Rattle.group_numbers.specs.Numbers.{group_count}
use Rattle.group_tallies.proofs.coarser.sources_among.Goals as goal

pub sources_of-requires-clause-below : goal.sources_of-requires-clause-below
sources_of-requires-clause-below c =
    let bound = group_count c.args.grouping.now.dimensions c.args.grouping.now.query.columns in
    let old = entries_of c.args.slots.now in
    let below = each_number (λ n. n < bound) old c.requires.numbers.sorted c.requires.numbers.below in
    subst (All (λ (entry : ℕ × ℕ). entry.0 < bound)) (sym (c.as_slice.ensures.value ∙ c.in_ok-entries.ensures))
    (All-numbers (λ n. n < bound) old below)
