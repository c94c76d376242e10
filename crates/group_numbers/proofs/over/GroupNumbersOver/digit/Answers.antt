use Rattle.std.proofs.Common.{sym, subst, ◌<◌, length}
use Rattle.group_numbers.specs.Columns.{IsColumnAt}
use Rattle.group_numbers.specs.Numbers.{group_count}
use Rattle.group_numbers.proofs.EachDigit.{column_weight, column_digit}
use Rattle.group_numbers.proofs.over.GroupNumbersOver.digit.Goals as goal

pub digit-requires-clause-weight : goal.digit-requires-clause-weight
digit-requires-clause-weight c =
    let dims = c.self.inside.dims.now in
    let columns = c.self.inside.grouping.now.query.columns in
    let i = c.args.column in
    let column = c.index.result.now in
    let within : i < length columns = rw (← c.self.view_is) at c.requires.column in
    let is : IsColumnAt dims columns i column =
    subst (IsColumnAt dims columns i) (sym c.index.ensures) (c.self.invariant.columns.each i within column) in
    column_weight dims columns i column within is

pub returns-clause-member : goal.returns-clause-member
returns-clause-member c =
    let dims = c.self.inside.dims.now in
    let columns = c.self.inside.grouping.now.query.columns in
    let i = c.args.column in
    let column = c.index.result.now in
    let within : i < length columns = rw (← c.self.view_is) at c.requires.column in
    let is : IsColumnAt dims columns i column =
    subst (IsColumnAt dims columns i) (sym c.index.ensures) (c.self.invariant.columns.each i within column) in
    let below : c.args.number < group_count dims columns = rw (← c.self.view_is) at c.requires.below in
    rw (← c.self.view_is, c.digit.ensures.value) (column_digit dims columns i column within is c.args.number below)
