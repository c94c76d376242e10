use Rattle.std.proofs.Common.{◌∙◌, sym, ap, length}
use Rattle.group_tallies.specs.Slots.{entries_of}
use Rattle.group_tallies.proofs.Numbering.{length-entries}
use Rattle.group_tallies.proofs.Placing.{length-numbers_from}
use Rattle.group_tallies.proofs.slots.Slots.len.Goals as goal

pub returns-in-Direct : goal.returns-in-Direct
returns-in-Direct c =
    sym (ap (λ slots. length (entries_of slots)) c.in-Direct.is ∙ length-numbers_from 0 c.in-Direct.count)

pub returns-in-Below : goal.returns-in-Below
returns-in-Below c = c.len.ensures.count
    ∙ sym (ap (λ slots. length (entries_of slots)) c.in-Below.is
    ∙ length-entries c.in-Below.table.numbers c.len.ensures.once)

pub returns-in-Seen : goal.returns-in-Seen
returns-in-Seen c = c.len-in-Seen.ensures.count
    ∙ sym (ap (λ slots. length (entries_of slots)) c.in-Seen.is
    ∙ length-entries c.in-Seen.numbers c.len-in-Seen.ensures.once)
