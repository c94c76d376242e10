use Rattle.std.proofs.Common.{◌∙◌, sym, ap, length}
use Rattle.group_numbers.specs.GroupNumbers.{query_of}
use Rattle.group_numbers.proofs.EachDigit.{key_length}
use Rattle.group_tallies.proofs.finished.GroupLine.columns.Goals as goal

pub returns : goal.returns
returns c =
    rw (← c.self.view_is) (c.len.ensures ∙ ap (λ q. length q.columns) c.query.ensures
    ∙ sym (key_length c.self.inside.dims.now (query_of c.self.inside.grouping.now).columns c.self.inside.number))
