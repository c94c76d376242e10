use Rattle.std.proofs.Common.{◌∙◌, sym, arith, ◌+◌, ◌-◌, ◌*◌, get_or, drop}
use Rattle.batch_loader.proofs.NumbersLemmas.{number_from-large, number_from-digit, number_from-stop, number_from-past}
use Rattle.batch_loader.proofs.NumbersLemmas.{number_of-start}
use Rattle.batch_loader.proofs.numbers.number.Goals as goal

pub returns-in_default : goal.returns-in_default
returns-in_default c = sym (c.loop-i.invariant.0
    ∙ number_from-digit c.args.limit c.loop-i.value c.loop-i.i c.args.text.now c.loop-i-test.true
    (omega (arith, c.if-byte-lt48.false)) (omega (arith, c.if-byte-gt57.false))
    ∙ number_from-large c.args.limit (c.loop-i.value * 10 + (get_or c.args.text.now c.loop-i.i 0 - 48))
    (drop (c.loop-i.i + 1) c.args.text.now) (omega (arith, c.in_default.ensures, c.ranges.limit)))

pub returns-in_default-checked_add : goal.returns-in_default-checked_add
returns-in_default-checked_add c = sym (c.loop-i.invariant.0
    ∙ number_from-digit c.args.limit c.loop-i.value c.loop-i.i c.args.text.now c.loop-i-test.true
    (omega (arith, c.if-byte-lt48.false)) (omega (arith, c.if-byte-gt57.false))
    ∙ number_from-large c.args.limit (c.loop-i.value * 10 + (get_or c.args.text.now c.loop-i.i 0 - 48))
    (drop (c.loop-i.i + 1) c.args.text.now)
    (omega (arith, c.ranges.limit, c.in_default-checked_add.ensures, c.in-Some.ensures, c.from.ensures)))

pub returns : goal.returns
returns c =
    sym (c.loop-i.invariant.0
    ∙ number_from-stop c.args.limit c.loop-i.value c.loop-i.i c.args.text.now (omega (arith, c.loop-i-test.false))
    (omega arith))

pub returns-then-value-limit : goal.returns-then-value-limit
returns-then-value-limit c =
    sym (c.loop-i.invariant.0
    ∙ number_from-past c.args.limit c.loop-i.value c.loop-i.i c.args.text.now (omega (arith, c.loop-i-test.false))
    (omega arith))

pub loop-i-init : goal.loop-i-init
loop-i-init c =
    (number_of-start c.args.limit c.args.text.now c.is_empty.result c.is_empty.ensures c.if-is_empty.false, omega arith)
