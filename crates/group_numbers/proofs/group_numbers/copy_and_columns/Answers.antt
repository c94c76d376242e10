use Rattle.std.proofs.Common.{length, subst}
use Rattle.group_numbers.specs.Columns.{AreColumns}
use Rattle.group_numbers.proofs.group_numbers.copy_and_columns.Goals as goal

pub returns-clause-columns : goal.returns-clause-columns
returns-clause-columns c =
    subst (λ attrs. AreColumns c.args.dims.now attrs (length attrs) c.in_ok-columns.columns.items) c.as_slice.ensures
    c.in_ok-columns.ensures
