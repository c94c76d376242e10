use Rattle.std.proofs.Common.{◌∙◌, sym, subst}
use Rattle.cube_model.specs.Attributes.{axis_of}
use Rattle.cube_model.specs.Places.{texts_of}
use Rattle.dimensions.specs.Ranked.{IsRankAt}
use Rattle.dimensions.specs.Dimensions.{IsDimension}
use Rattle.dimensions.specs.Shown.{rows_on}
use Rattle.dimensions.proofs.AttributeLaws.{has_column}
use Rattle.dimensions.proofs.dims.Dims.rank.Goals as goal

pub returns-in-Some-clause-below : goal.returns-in-Some-clause-below
returns-in-Some-clause-below c =
    let has = has_column c.args.self.now c.args.attr c.in-Some.column (sym c.column_of_attr.ensures ∙ c.in-Some.is) in
    let is : IsDimension (axis_of c.args.attr) (rows_on c.args.self.now (axis_of c.args.attr)) c.dimension.result.now =
    subst (λ axis. IsDimension axis (rows_on c.args.self.now axis) c.dimension.result.now) c.axis.ensures
    c.dimension.ensures.are in
    let at : IsRankAt (texts_of c.args.self.now c.args.attr) c.args.place c.rank-in-Some.result =
    subst (λ texts. IsRankAt texts c.args.place c.rank-in-Some.result) (sym has.0)
    (c.rank-in-Some.ensures (axis_of c.args.attr) (rows_on c.args.self.now (axis_of c.args.attr)) is) in
    at.0

pub returns-in-Some-clause-text : goal.returns-in-Some-clause-text
returns-in-Some-clause-text c =
    let has = has_column c.args.self.now c.args.attr c.in-Some.column (sym c.column_of_attr.ensures ∙ c.in-Some.is) in
    let is : IsDimension (axis_of c.args.attr) (rows_on c.args.self.now (axis_of c.args.attr)) c.dimension.result.now =
    subst (λ axis. IsDimension axis (rows_on c.args.self.now axis) c.dimension.result.now) c.axis.ensures
    c.dimension.ensures.are in
    let at : IsRankAt (texts_of c.args.self.now c.args.attr) c.args.place c.rank-in-Some.result =
    subst (λ texts. IsRankAt texts c.args.place c.rank-in-Some.result) (sym has.0)
    (c.rank-in-Some.ensures (axis_of c.args.attr) (rows_on c.args.self.now (axis_of c.args.attr)) is) in
    at.1
