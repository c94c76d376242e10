use Rattle.std.proofs.Common.{arith, refl}
use Rattle.stored_rows.proofs.PassedTexts.{one_whole, text_passed}
use Rattle.stored_rows.proofs.window.pass_texts.Goals as goal

pub loop-texts-preserved : goal.loop-texts-preserved
loop-texts-preserved c = record {
  few = omega arith;
  within = c.in-Some.ensures.some.2;
  first = λ none. absurd (omega (arith, none));
  passed = λ all rest is begins.
      text_passed c.args.window.now all rest c.args.wanted c.loop-texts.texts c.loop-texts.bytes c.in-Some.end is
      c.loop-texts-test.true c.in-Some.ensures.some.1 c.in-Some.ensures.some.0
      (c.loop-texts.invariant.passed all rest is begins);
}

pub returns-in_default-clause-none : goal.returns-in_default-clause-none
returns-in_default-clause-none c = λ none some all rest is begins.
    one_whole c.args.window.now all rest c.args.wanted c.loop-texts.bytes is some (c.loop-texts.invariant.first none)
    (c.in_default.ensures.none refl) begins
