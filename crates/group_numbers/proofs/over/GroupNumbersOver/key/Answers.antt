use Rattle.std.proofs.Common.{◌≡◌, ◌∙◌, sym, subst, arith, ◌<◌, ◌++◌, ◌∷◌, [], length, take}
use Rattle.std.proofs.lemmas.List.{take_more, take_all}
use Rattle.cube_model.specs.declared.answer.Member.TheVariants.{All}
use Rattle.group_numbers.specs.Columns.{IsColumnAt, attr_at, digit_of}
use Rattle.group_numbers.specs.MemberRows.{HaveMembers}
use Rattle.group_numbers.specs.Numbers.{group_count, group_key_at, digit_member}
use Rattle.group_numbers.proofs.EachDigit.{column_weight, column_digit, key_length}
use Rattle.group_numbers.proofs.Extending.{extend_same}
use Rattle.group_numbers.proofs.over.GroupNumbersOver.key.Goals as goal

pub digit-requires-clause-weight : goal.digit-requires-clause-weight
digit-requires-clause-weight c =
    let dims = c.self.inside.dims.now in
    let columns = c.self.inside.grouping.now.query.columns in
    let i = c.loop-i.i in
    let column = c.index-column.result.now in
    let within : i < length columns =
    omega (arith, c.loop-i-test.true, c.len-i-end.ensures, c.self.invariant.columns.counted) in
    let is : IsColumnAt dims columns i column =
    subst (IsColumnAt dims columns i) (sym c.index-column.ensures) (c.self.invariant.columns.each i within column) in
    column_weight dims columns i column within is

pub member-requires : goal.member-requires
member-requires c =
    let dims = c.self.inside.dims.now in
    let columns = c.self.inside.grouping.now.query.columns in
    let i = c.loop-i.i in
    let column = c.index-column.result.now in
    let within : i < length columns =
    omega (arith, c.loop-i-test.true, c.len-i-end.ensures, c.self.invariant.columns.counted) in
    let is : IsColumnAt dims columns i column =
    subst (IsColumnAt dims columns i) (sym c.index-column.ensures) (c.self.invariant.columns.each i within column) in
    (dims, (subst (λ attr. HaveMembers dims attr column.places.items) (sym is.attr) is.places, extend_same dims))

pub loop-i-preserved : goal.loop-i-preserved
loop-i-preserved c =
    let dims = c.self.inside.dims.now in
    let columns = c.self.inside.grouping.now.query.columns in
    let i = c.loop-i.i in
    let column = c.index-column.result.now in
    let within : i < length columns =
    omega (arith, c.loop-i-test.true, c.len-i-end.ensures, c.self.invariant.columns.counted) in
    let is : IsColumnAt dims columns i column =
    subst (IsColumnAt dims columns i) (sym c.index-column.ensures) (c.self.invariant.columns.each i within column) in
    let below : c.args.number < group_count dims columns = rw (← c.self.view_is) at c.requires in
    let so_far : c.loop-i.key.items ≡ take i (group_key_at dims columns c.args.number) =
    rw (← c.self.view_is) at c.loop-i.invariant in
    let member : c.in_ok-member.member
    ≡ digit_member dims (attr_at columns i) (digit_of column.digits column.weight c.args.number) =
    c.in_ok-member.ensures dims (subst (λ attr. HaveMembers dims attr column.places.items) (sym is.attr) is.places)
    (extend_same dims)
    ∙ (λ j. digit_member dims (is.attr j) (c.digit.ensures.value j)) in
    rw (← c.self.view_is) (
    c.in_ok-push.ensures.items
    ∙ (λ j. so_far j ++ (member ∙ sym (column_digit dims columns i column within is c.args.number below)) j ∷ [])
    ∙ sym (take_more (group_key_at dims columns c.args.number) i All
    (omega (arith, within, key_length dims columns c.args.number)))
    )

pub returns : goal.returns
returns c =
    let dims = c.self.inside.dims.now in
    let columns = c.self.inside.grouping.now.query.columns in
    let so_far : c.loop-i.key.items ≡ take c.loop-i.i (group_key_at dims columns c.args.number) =
    rw (← c.self.view_is) at c.loop-i.invariant in
    rw (← c.self.view_is) (c.from_vec.ensures ∙ so_far
    ∙ take_all c.loop-i.i (group_key_at dims columns c.args.number)
    (omega (
      arith,
      c.loop-i-test.false,
      c.len-i-end.ensures,
      c.self.invariant.columns.counted,
      key_length dims columns c.args.number,
    )))
