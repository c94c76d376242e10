use Rattle.std.proofs.Common.{◌∙◌, ap, length-set, arith}
use Rattle.std.specs.Option.{option_map}
use Rattle.dictionary.specs.Columns.{text_of_code}
use Rattle.cuboid_upkeep.specs.Codes.{modes_of}
use Rattle.cuboid_upkeep.specs.Modes.{code_among}
use Rattle.cuboid_upkeep.proofs.OwnModes.{one_code_more}
use Rattle.cuboid_upkeep.proofs.mode_codes.put_codes.Goals as goal

pub loop-place-preserved : goal.loop-place-preserved
loop-place-preserved g c =
    let codes = c.loop-place.codes in
    let modes = modes_of (option_map (λ modes. modes.now) c.args.modes) in
    let texts = g.F.ModeRows.modes c.args.rows.now in (
      length-set codes c.loop-place.place c.code_in.result ∙ c.loop-place.invariant.0,
      one_code_more (λ k. code_among modes (text_of_code texts k)) codes c.loop-place.place c.code_in.result
          (omega (arith, c.loop-place-test.true, c.loop-place.invariant.0))
          (◌∙◌ {b = code_among modes c.mode_text.result.now} c.code_in.ensures
          (ap (code_among modes) c.mode_text.ensures)) c.loop-place.invariant.1,
    )

pub returns : goal.returns
returns g c = record {
  many = c.loop-place.invariant.0 ∙ c.requires.count;
  each = λ place within. c.loop-place.invariant.1 place
      (omega (arith, within, c.loop-place-test.false, c.loop-place.invariant.0, c.requires.count));
}
