use Rattle.planned_queries.proofs.Views.{with_modes}
use Rattle.planned_queries.proofs.mode_batches.moded_view.Goals as goal

pub returns : goal.returns
returns c = with_modes c.args.query.now c.in_ok-view.view c.in_ok-view.ensures.needed
