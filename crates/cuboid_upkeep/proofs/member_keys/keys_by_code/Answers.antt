use Rattle.dimensions.proofs.CallerLemmas.{good_on}
use Rattle.cuboid_upkeep.proofs.member_keys.keys_by_code.Goals as goal

pub code_count-requires-clause-good : goal.code_count-requires-clause-good
code_count-requires-clause-good c =
    good_on c.args.dims.now c.row_count.ensures.storable
    c.args.axis

pub put_keys-requires-clause-good : goal.put_keys-requires-clause-good
put_keys-requires-clause-good c =
    good_on c.args.dims.now c.row_count.ensures.storable
    c.args.axis
