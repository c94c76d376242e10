use Rattle.std.proofs.Common.{◌<◌, sym, subst, length}
use Rattle.group_numbers.specs.Numbers.{Asked, group_key_at}
use Rattle.group_numbers.specs.GroupNumbers.{query_of}
use Rattle.group_numbers.proofs.EachDigit.{key_length}
use Rattle.group_tallies.proofs.finished.GroupLine.text.Goals as goal

pub text-requires-clause-column : goal.text-requires-clause-column
text-requires-clause-column c =
    let dims = c.self.inside.dims.now in
    let columns = (query_of c.self.inside.grouping.now).columns in
    let within : c.args.column < length (group_key_at dims columns c.self.inside.number) =
    rw (← c.self.view_is) at c.requires in
    let below : c.args.column < length columns =
    subst (λ n. c.args.column < n) (key_length dims columns c.self.inside.number) within in
    subst (λ (asked : Asked). c.args.column < length asked.query.columns) (sym c.over.ensures) below
