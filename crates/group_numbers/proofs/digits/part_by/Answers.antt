use Rattle.std.proofs.Common.{arith}
use Rattle.cube_model.specs.declared.attr.Attr.TheVariants.{CustomerCity}
use Rattle.group_numbers.specs.declared.digits.Digit.{Digit}
use Rattle.group_numbers.proofs.DigitsOn.{part_more, part_more_le}
use Rattle.group_numbers.proofs.digits.part_by.Goals as goal

pub overflow_mul-part : goal.overflow_mul-part
overflow_mul-part c =
    let default : Digit = record { attr = CustomerCity; weight = 0 } in
    let within = part_more_le c.args.dims.now c.args.place c.args.digits.now c.loop-digit.digit-index default
    c.loop-digit-test.true
    c.rank.result c.from.result c.rank.ensures.below c.rank.ensures.text c.from.ensures in
    record { fits = omega (arith, c.requires.fits, within) }

pub overflow_add-part : goal.overflow_add-part
overflow_add-part c =
    let default : Digit = record { attr = CustomerCity; weight = 0 } in
    let within = part_more_le c.args.dims.now c.args.place c.args.digits.now c.loop-digit.digit-index default
    c.loop-digit-test.true
    c.rank.result c.from.result c.rank.ensures.below c.rank.ensures.text c.from.ensures in
    record { fits = omega (arith, c.requires.fits, c.loop-digit.invariant, within) }

pub loop-digit-preserved : goal.loop-digit-preserved
loop-digit-preserved c =
    let default : Digit = record { attr = CustomerCity; weight = 0 } in
    let more = part_more c.args.dims.now c.args.place c.args.digits.now c.loop-digit.digit-index default
    c.loop-digit-test.true
    c.rank.result c.from.result c.rank.ensures.below c.rank.ensures.text c.from.ensures in
    omega (arith, c.loop-digit.invariant, more)
