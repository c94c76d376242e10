use Rattle.std.proofs.Common.{◌∙◌, sym, ap, length}
use Rattle.group_numbers.specs.GroupNumbers.{query_of}
use Rattle.group_tallies.proofs.LineLaws.{length-values_of}
use Rattle.group_tallies.proofs.finished.GroupLine.values.Goals as goal

pub returns : goal.returns
returns c =
    rw (← c.self.view_is) (c.len.ensures ∙ ap (λ q. length q.aggregates) c.query.ensures
    ∙ sym (length-values_of c.self.inside.slot (query_of c.self.inside.grouping.now).aggregates
    c.self.inside.columns.now
    c.self.invariant.1))
