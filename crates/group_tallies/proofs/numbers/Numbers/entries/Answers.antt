use Rattle.std.proofs.Common.{◌≡◌, ◌∙◌, subst}
use Rattle.std.specs.Prelude.{IfOk}
use Rattle.group_tallies.specs.Numbered.{entries_in}
use Rattle.group_tallies.proofs.numbers.Numbers.entries.Goals as goal

pub returns : goal.returns
returns c =
    subst (λ numbers. IfOk c.sorted_entries.result (λ entries. entries.items ≡ entries_in numbers))
    (c.as_slice.ensures.keys ∙ c.self.view_is) c.sorted_entries.ensures
