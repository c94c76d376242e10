use Rattle.std.proofs.Common.{[], map}
use Rattle.std.proofs.lemmas.Result.{err_from_is_err_and}
use Rattle.dimensions.proofs.DimensionLemmas.{none_at_first, not_built}
use Rattle.dimensions.proofs.dimension.Dimension.build.Goals as goal

pub extend-requires-clause-sound : goal.extend-requires-clause-sound
extend-requires-clause-sound g c = ([], (c.in_ok-dimension.ensures.ok, none_at_first c.args.axis))

pub returns-in_err-extend : goal.returns-in_err-extend
returns-in_err-extend g c =
    let p = err_from_is_err_and c.from_residual-in_err-extend.result c.from_residual-in_err-extend.ensures.1 in
    rw (p.1, p.2)
    (not_built c.args.axis (map g.R.DimensionRow.shown c.args.rows.now) c.extend.new.self c.in_err-extend.field-0.0
    (c.in_err-extend.ensures [] (c.in_ok-dimension.ensures.ok, none_at_first c.args.axis)))

pub returns : goal.returns
returns g c = c.in_ok-extend.ensures [] (c.in_ok-dimension.ensures.ok, none_at_first c.args.axis)
