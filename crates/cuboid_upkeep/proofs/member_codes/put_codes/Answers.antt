use Rattle.std.proofs.Common.{◌<◌, arith, ℕ}
use Rattle.cube_model.specs.Places.{row_count_of}
use Rattle.cuboid_upkeep.specs.Codes.{member_code}
use Rattle.cuboid_upkeep.proofs.member_codes.put_codes.Goals as goal

pub read-requires : goal.read-requires
read-requires c =
    let place : ℕ = c.loop-place.place in
    let within : place < row_count_of c.args.dims.now c.args.axis =
    omega (arith, c.loop-place-test.true, c.requires.count, c.loop-place.invariant.0) in
    let lead = c.of-tables.ensures c.requires.grouped in
    let below = lead.below place within in
    (member_code c.args.dims.now c.args.axis c.args.grouped place, lead.leads place within, omega (arith, below))
