use Rattle.std.proofs.Common.{◌<◌, ◌^◌, sym, subst, get_or}
use Rattle.std.specs.Prelude.{IfSome}
use Rattle.group_numbers.proofs.EachDigit.{some_groups}
use Rattle.group_numbers.proofs.Outcomes.{given_below}
use Rattle.group_numbers.proofs.side.narrow_parts.Goals as goal

pub narrow-requires : goal.narrow-requires
narrow-requires c =
    let dims = c.args.dims.now in
    let i = c.loop-place.place-index in
    subst (λ part. IfSome part (λ number. number < 2 ^ 32)) (sym c.given_at.ensures)
    (given_below dims c.args.query.now c.args.axis (get_or c.args.places.now i 0) (2 ^ 32)
    (c.requires.places i c.loop-place-test.true) (some_groups dims c.args.query.now.columns) c.requires.narrow)
