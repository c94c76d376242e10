use Rattle.std.proofs.Common.{◌∙◌, ap, map}
use Rattle.std.proofs.lemmas.Result.{err_from_is_err_and}
use Rattle.dimensions.specs.Columns.{unranked}
use Rattle.dimensions.proofs.DimensionLemmas.{copied_rows}
use Rattle.dimensions.proofs.dimension.Dimension.with_rows.Goals as goal

pub extend-requires-clause-sound : goal.extend-requires-clause-sound
extend-requires-clause-sound g c = (
  c.requires.sound.0,
  copied_rows c.args.axis c.requires.sound.0 c.args.self.now
      (record { keys = c.in_ok-keys.keys; columns = c.in_ok-columns.columns }) c.in_ok-keys.ensures.ok
      (c.in_ok-columns.ensures.ok ∙ ap (map unranked) c.as_slice.ensures.value) c.requires.sound.1,
)

pub returns-in_err-extend : goal.returns-in_err-extend
returns-in_err-extend g c = λ old holds.
    let p = err_from_is_err_and c.from_residual-in_err-extend.result c.from_residual-in_err-extend.ensures.1 in
    rw (p.1, p.2)
    (c.in_err-extend.ensures old (copied_rows c.args.axis old c.args.self.now
    (record { keys = c.in_ok-keys.keys; columns = c.in_ok-columns.columns }) c.in_ok-keys.ensures.ok
    (c.in_ok-columns.ensures.ok ∙ ap (map unranked) c.as_slice.ensures.value) holds))

pub returns : goal.returns
returns g c = λ old holds.
    c.in_ok-extend.ensures old (copied_rows c.args.axis old c.args.self.now
    (record { keys = c.in_ok-keys.keys; columns = c.in_ok-columns.columns }) c.in_ok-keys.ensures.ok
    (c.in_ok-columns.ensures.ok ∙ ap (map unranked) c.as_slice.ensures.value) holds)
