use Rattle.std.proofs.Common.{◌<◌, ◌∙◌, ap, sym, subst, arith, length}
use Rattle.std.proofs.lemmas.List.{get_or_read}
use Rattle.cube_model.specs.Attributes.{axis_of}
use Rattle.cube_model.specs.Validity.{members_of}
use Rattle.dimensions.specs.Dimensions.{IsDimension, no_column}
use Rattle.dimensions.specs.Shown.{rows_on}
use Rattle.dimensions.proofs.AttributeLaws.{has_column}
use Rattle.dimensions.proofs.DimensionReads.{members_are}
use Rattle.dimensions.proofs.dims.Dims.ranks.Goals as goal

pub returns-in-Some : goal.returns-in-Some
returns-in-Some c =
    let has = has_column c.args.self.now c.args.attr c.in-Some.column (sym c.column_of_attr.ensures ∙ c.in-Some.is) in
    let is : IsDimension (axis_of c.args.attr) (rows_on c.args.self.now (axis_of c.args.attr)) c.dimension.result.now =
    subst (λ axis. IsDimension axis (rows_on c.args.self.now axis) c.dimension.result.now) c.axis.ensures
    c.dimension.ensures.are in
    let lt : c.in-Some.column < length c.dimension.result.now.columns.items = omega (arith, has.1, is.stores.count) in
    let read = get_or_read c.dimension.result.now.columns.items c.in-Some.column c.index.result.now lt c.index.ensures
    no_column in
    ap members_of (c.ranks.ensures ∙ ap (λ column. column.ranks) read)
    ∙ members_are (axis_of c.args.attr) (rows_on c.args.self.now (axis_of c.args.attr))
    c.dimension.result.now is c.in-Some.column lt ∙ ap members_of (sym has.0)
