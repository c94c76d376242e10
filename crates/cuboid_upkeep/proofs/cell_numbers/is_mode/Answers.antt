use Rattle.std.proofs.Common.{arith, rules, subst, sym}
use Rattle.std.specs.Option.{option_map}
use Rattle.cuboid_upkeep.specs.Codes.{modes_of}
use Rattle.cuboid_upkeep.specs.Representatives.{IsCodeOfMode}
use Rattle.cuboid_upkeep.proofs.Modes.{code_absent, code_found}
use Rattle.cuboid_upkeep.proofs.cell_numbers.is_mode.Goals as goal

pub returns-in_default-text : goal.returns-in_default-text
returns-in_default-text c = (
  λ no. absurd (cc no),
  λ is. absurd
      (code_absent c.in-Some.modes.now.texts c.from.result c.args.code c.from.ensures c.in_default-text.ensures.text
      (subst (λ modes. IsCodeOfMode (modes_of (option_map (λ modes. modes.now) modes)) c.args.code) c.in-Some.is is)),
)

pub returns : goal.returns
returns c = (
  λ yes.
      subst (λ modes. IsCodeOfMode (modes_of (option_map (λ modes. modes.now) modes)) c.args.code) (sym c.in-Some.is)
      (code_found c.in-Some.modes.now.texts c.from.result c.args.code c.in-Some-text._text.now c.from.ensures
      c.in-Some-text.ensures.text c.in-Some-text.ensures.again
      (omega (arith, c.if-code-eq-ALL_CODE.false, c.ranges.code.fits))),
  λ is. search rules,
)
