use Rattle.dimensions.proofs.CallerLemmas.{good_on}
use Rattle.cuboid_upkeep.proofs.member_codes.level_codes.Goals as goal

pub put_codes-requires-clause-good : goal.put_codes-requires-clause-good
put_codes-requires-clause-good c = good_on c.args.dims.now c.row_count.ensures.storable c.args.axis
