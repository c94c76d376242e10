use Rattle.std.proofs.Common.{◌≡◌, ◌∙◌, sym, subst, ◌<◌, length, get_or}
use Rattle.std.proofs.lemmas.Option.{IfSome_then}
use Rattle.std.specs.Prelude.{Option, Some, None, IfNone}
use Rattle.cube_model.specs.declared.answer.Member.TheVariants.{All}
use Rattle.group_numbers.specs.Columns.{IsColumnAt}
use Rattle.group_numbers.specs.MemberRows.{HaveMembers}
use Rattle.group_numbers.specs.Numbers.{group_count, group_key_at, digit_member}
use Rattle.group_numbers.proofs.EachDigit.{column_weight, column_digit}
use Rattle.group_numbers.proofs.Extending.{extend_same}
use Rattle.group_numbers.proofs.over.GroupNumbersOver.text.Goals as goal

pub digit-requires-clause-weight : goal.digit-requires-clause-weight
digit-requires-clause-weight c =
    let dims = c.self.inside.dims.now in
    let columns = c.self.inside.grouping.now.query.columns in
    let i = c.args.column in
    let column = c.index-kept.result.now in
    let within : i < length columns = rw (← c.self.view_is) at c.requires.column in
    let is : IsColumnAt dims columns i column =
    subst (IsColumnAt dims columns i) (sym c.index-kept.ensures) (c.self.invariant.columns.each i within column) in
    column_weight dims columns i column within is

pub text-requires : goal.text-requires
text-requires c =
    let dims = c.self.inside.dims.now in
    let columns = c.self.inside.grouping.now.query.columns in
    let i = c.args.column in
    let column = c.index-kept.result.now in
    let within : i < length columns = rw (← c.self.view_is) at c.requires.column in
    let is : IsColumnAt dims columns i column =
    subst (IsColumnAt dims columns i) (sym c.index-kept.ensures) (c.self.invariant.columns.each i within column) in
    (dims, (subst (λ attr. HaveMembers dims attr column.places.items) (sym is.attr) is.places, extend_same dims))

none_then : {X : Type 0} (r : Option X) (P Q : Type 0) → IfNone r P → (P → Q) → IfNone r Q
none_then None P Q holds then = then holds
none_then (Some x) P Q holds then = tt

pub returns-clause-text : goal.returns-clause-text
returns-clause-text c =
    let dims = c.self.inside.dims.now in
    let columns = c.self.inside.grouping.now.query.columns in
    let i = c.args.column in
    let column = c.index-kept.result.now in
    let within : i < length columns = rw (← c.self.view_is) at c.requires.column in
    let is : IsColumnAt dims columns i column =
    subst (IsColumnAt dims columns i) (sym c.index-kept.ensures) (c.self.invariant.columns.each i within column) in
    let below : c.args.number < group_count dims columns = rw (← c.self.view_is) at c.requires.below in
    let have : HaveMembers dims column.attr column.places.items =
    subst (λ attr. HaveMembers dims attr column.places.items) (sym is.attr) is.places in
    let at : get_or (group_key_at dims columns c.args.number) i All ≡ digit_member dims column.attr c.digit.result =
    column_digit dims columns i column within is c.args.number below
    ∙ (λ j. digit_member dims (sym is.attr j) (sym c.digit.ensures.value j)) in
    rw (← c.self.view_is)
    (IfSome_then c.text.result c.text.ensures.text (λ text found. at ∙ found dims have (extend_same dims)))

pub returns-clause-all : goal.returns-clause-all
returns-clause-all c =
    let dims = c.self.inside.dims.now in
    let columns = c.self.inside.grouping.now.query.columns in
    let i = c.args.column in
    let column = c.index-kept.result.now in
    let within : i < length columns = rw (← c.self.view_is) at c.requires.column in
    let is : IsColumnAt dims columns i column =
    subst (IsColumnAt dims columns i) (sym c.index-kept.ensures) (c.self.invariant.columns.each i within column) in
    let below : c.args.number < group_count dims columns = rw (← c.self.view_is) at c.requires.below in
    let have : HaveMembers dims column.attr column.places.items =
    subst (λ attr. HaveMembers dims attr column.places.items) (sym is.attr) is.places in
    let at : get_or (group_key_at dims columns c.args.number) i All ≡ digit_member dims column.attr c.digit.result =
    column_digit dims columns i column within is c.args.number below
    ∙ (λ j. digit_member dims (sym is.attr j) (sym c.digit.ensures.value j)) in
    rw (← c.self.view_is)
    (none_then c.text.result _ _ c.text.ensures.all (λ found. at ∙ found dims have (extend_same dims)))
