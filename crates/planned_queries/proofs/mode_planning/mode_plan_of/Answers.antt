use Rattle.std.proofs.Common.{rules}
use Rattle.planned_queries.proofs.ModesPlanned.{serves_by_modes}
use Rattle.planned_queries.proofs.mode_planning.mode_plan_of.Goals as goal

pub returns-clause-serves : goal.returns-clause-serves
returns-clause-serves c =
    serves_by_modes c.args.asked.now c.in_ok-stored_in.field-0.items c.args.root.now.batches c.args.as_of _
    (search rules)
