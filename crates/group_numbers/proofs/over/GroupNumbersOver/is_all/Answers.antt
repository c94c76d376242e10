use Rattle.std.proofs.Common.{get_or, true, ◌≡◌, ◌∙◌, sym, ap, subst, arith, ◌<◌, length}
use Rattle.std.specs.Prelude.{nat_le}
use Rattle.std.proofs.lemmas.Bool.Decides.{nat_tests}
use Rattle.std.proofs.lemmas.List.{get_or_past}
use Rattle.cube_model.specs.declared.answer.Member.TheVariants.{All}
use Rattle.group_numbers.specs.Columns.{IsColumnAt}
use Rattle.cube_model.specs.Keys.{is_all}
use Rattle.group_numbers.specs.Numbers.{group_count, group_key_at}
use Rattle.group_numbers.proofs.EachDigit.{column_weight, column_is_all, key_length}
use Rattle.group_numbers.proofs.over.GroupNumbersOver.is_all.Goals as goal

pub is_all-requires-clause-weight : goal.is_all-requires-clause-weight
is_all-requires-clause-weight c =
    let dims = c.self.inside.dims.now in
    let columns = c.self.inside.grouping.now.query.columns in
    let i = c.args.column in
    let column = c.index.result.now in
    let within : i < length columns =
    omega (arith, c.if-column-len.false, c.len.ensures, c.self.invariant.columns.counted) in
    let is : IsColumnAt dims columns i column =
    subst (IsColumnAt dims columns i) (sym c.index.ensures) (c.self.invariant.columns.each i within column) in
    column_weight dims columns i column within is

pub returns-else-column-len : goal.returns-else-column-len
returns-else-column-len c =
    let dims = c.self.inside.dims.now in
    let columns = c.self.inside.grouping.now.query.columns in
    let i = c.args.column in
    let column = c.index.result.now in
    let within : i < length columns =
    omega (arith, c.if-column-len.false, c.len.ensures, c.self.invariant.columns.counted) in
    let is : IsColumnAt dims columns i column =
    subst (IsColumnAt dims columns i) (sym c.index.ensures) (c.self.invariant.columns.each i within column) in
    let below : c.args.number < group_count dims columns = rw (← c.self.view_is) at c.requires in
    rw (← c.self.view_is, c.is_all.ensures) (column_is_all dims columns i column within is c.args.number below)

pub returns-then-column-len : goal.returns-then-column-len
returns-then-column-len c =
    let dims = c.self.inside.dims.now in
    let columns = c.self.inside.grouping.now.query.columns in
    let key = group_key_at dims columns c.args.number in
    let past : get_or key c.args.column All ≡ All =
    get_or_past key c.args.column All
    (omega (
      arith,
      c.if-column-len.true,
      c.len.ensures,
      c.self.invariant.columns.counted,
      key_length dims columns c.args.number,
    )) in
    let test : nat_le c.len.result c.args.column ≡ true = grind (arith, nat_tests, c.if-column-len.true) in
    rw (← c.self.view_is) (test ∙ sym (ap is_all past))
