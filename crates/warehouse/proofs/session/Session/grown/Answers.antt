use Rattle.std.proofs.Common.{[]}
use Rattle.warehouse.proofs.session.Session.grown.Goals as goal

pub returns-clause-grows : goal.returns-clause-grows
returns-clause-grows g c = c.in_ok-add_rows.ensures.ok [] c.in_ok-batch.ensures.ok
