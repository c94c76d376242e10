use Rattle.group_numbers.proofs.Extending.{grouping_of_over}
use Rattle.group_numbers.proofs.group_numbers.GroupNumbers.over.Goals as goal

pub of-requires : goal.of-requires
of-requires c = grouping_of_over c.args.dims.now c.args.self.now c.requires
