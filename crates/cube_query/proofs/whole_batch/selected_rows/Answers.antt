use Rattle.std.proofs.Common.{◌∙◌}
use Rattle.cube_query.proofs.WholeBatches.{bounds_tell}
use Rattle.cube_query.proofs.whole_batch.selected_rows.Goals as goal

pub returns-clause-ok : goal.returns-clause-ok
returns-clause-ok c =
    let asked = c.args.grouping.now in
    c.in_ok-mask.ensures.ok
    ∙ bounds_tell asked.dimensions asked.query.conditions c.bounds-limits.result c.args.batch.now c.requires
    c.bounds-limits.ensures c.mask.ensures.figures
