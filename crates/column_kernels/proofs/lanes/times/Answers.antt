use Rattle.column_kernels.proofs.LanesLemmas.{products_fit, products_sum}
use Rattle.column_kernels.proofs.lanes.times.Goals as goal

pub overflow_mul-result : goal.overflow_mul-result
overflow_mul-result c = products_fit c.args.halves c.args.bytes c.requires.small.0 c.requires.small.1

pub returns-clause-small : goal.returns-clause-small
returns-clause-small c =
    products_sum c.args.halves c.args.bytes c.requires.lanes.0 c.requires.lanes.1 c.requires.small.0 c.requires.small.1
