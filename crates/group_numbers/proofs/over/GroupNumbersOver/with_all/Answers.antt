use Rattle.std.proofs.Common.{sym, subst, arith, ◌<◌, length}
use Rattle.group_numbers.specs.Columns.{IsColumnAt}
use Rattle.group_numbers.specs.Numbers.{group_count}
use Rattle.group_numbers.proofs.EachDigit.{column_weight, column_whole, column_all_below, column_all}
use Rattle.group_numbers.proofs.over.GroupNumbersOver.with_all.Goals as goal

pub with_all-requires-clause-weight : goal.with_all-requires-clause-weight
with_all-requires-clause-weight c =
    let dims = c.self.inside.dims.now in
    let columns = c.self.inside.grouping.now.query.columns in
    let i = c.args.column in
    let column = c.index.result.now in
    let within : i < length columns = rw (← c.self.view_is) at c.requires.column in
    let is : IsColumnAt dims columns i column =
    subst (IsColumnAt dims columns i) (sym c.index.ensures) (c.self.invariant.columns.each i within column) in
    column_weight dims columns i column within is

pub with_all-requires-clause-whole : goal.with_all-requires-clause-whole
with_all-requires-clause-whole c =
    let dims = c.self.inside.dims.now in
    let columns = c.self.inside.grouping.now.query.columns in
    let i = c.args.column in
    let column = c.index.result.now in
    let within : i < length columns = rw (← c.self.view_is) at c.requires.column in
    let is : IsColumnAt dims columns i column =
    subst (IsColumnAt dims columns i) (sym c.index.ensures) (c.self.invariant.columns.each i within column) in
    omega (arith, column_whole dims columns i column within is, c.self.invariant.counted, c.self.invariant.fits)

pub with_all-requires-clause-fits : goal.with_all-requires-clause-fits
with_all-requires-clause-fits c =
    let dims = c.self.inside.dims.now in
    let columns = c.self.inside.grouping.now.query.columns in
    let i = c.args.column in
    let column = c.index.result.now in
    let within : i < length columns = rw (← c.self.view_is) at c.requires.column in
    let is : IsColumnAt dims columns i column =
    subst (IsColumnAt dims columns i) (sym c.index.ensures) (c.self.invariant.columns.each i within column) in
    let below : c.args.number < group_count dims columns = rw (← c.self.view_is) at c.requires.below in
    omega (
      arith,
      column_all_below dims columns i column within is c.args.number below,
      c.self.invariant.counted,
      c.self.invariant.fits,
    )

pub returns-clause-below : goal.returns-clause-below
returns-clause-below c =
    let dims = c.self.inside.dims.now in
    let columns = c.self.inside.grouping.now.query.columns in
    let i = c.args.column in
    let column = c.index.result.now in
    let within : i < length columns = rw (← c.self.view_is) at c.requires.column in
    let is : IsColumnAt dims columns i column =
    subst (IsColumnAt dims columns i) (sym c.index.ensures) (c.self.invariant.columns.each i within column) in
    let below : c.args.number < group_count dims columns = rw (← c.self.view_is) at c.requires.below in
    rw (← c.self.view_is, c.with_all.ensures) (column_all_below dims columns i column within is c.args.number below)

pub returns-clause-key : goal.returns-clause-key
returns-clause-key c =
    let dims = c.self.inside.dims.now in
    let columns = c.self.inside.grouping.now.query.columns in
    let i = c.args.column in
    let column = c.index.result.now in
    let within : i < length columns = rw (← c.self.view_is) at c.requires.column in
    let is : IsColumnAt dims columns i column =
    subst (IsColumnAt dims columns i) (sym c.index.ensures) (c.self.invariant.columns.each i within column) in
    let below : c.args.number < group_count dims columns = rw (← c.self.view_is) at c.requires.below in
    rw (← c.self.view_is, c.with_all.ensures) (column_all dims columns i column within is c.args.number below)
