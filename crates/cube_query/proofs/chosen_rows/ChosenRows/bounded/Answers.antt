use Rattle.cube_query.proofs.Choosing.{whole_if_ok}
use Rattle.cube_query.proofs.chosen_rows.ChosenRows.bounded.Goals as goal

pub returns-then-are_open-clause-ok : goal.returns-then-are_open-clause-ok
returns-then-are_open-clause-ok c = whole_if_ok c.all.result c.args.bounds c.args.batch c.all.ensures.ok
