use Rattle.std.proofs.Common.{arith}
use Rattle.cuboid_upkeep.proofs.Ascending.{below_top}
use Rattle.cuboid_upkeep.proofs.numbers.joined.Goals as goal

pub overflow_mul-result : goal.overflow_mul-result
overflow_mul-result c =
    omega (arith, c.requires.3, below_top c.args.high c.requires.0 c.args.count c.args.low c.requires.1 c.requires.2)

pub overflow_add-result : goal.overflow_add-result
overflow_add-result c =
    omega (arith, c.requires.3, below_top c.args.high c.requires.0 c.args.count c.args.low c.requires.1 c.requires.2)

pub returns-clause-within : goal.returns-clause-within
returns-clause-within c = λ top high low. below_top c.args.high top c.args.count c.args.low high low
