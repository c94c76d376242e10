use Rattle.cube_query.proofs.Choosing.{keep_on}
use Rattle.cube_query.proofs.chosen_rows.ChosenRows.of.Goals as goal

pub returns-clause-ok : goal.returns-clause-ok
returns-clause-ok c =
    let dims = c.args.grouping.now.dimensions in
    let conditions = c.args.grouping.now.query.conditions in
    let bounded = c.in_ok-chosen.ensures.ok dims conditions c.bounds.ensures in
    let suppliers = keep_on dims conditions _ _ _ c.without-chosen.ensures bounded in
    let customers = keep_on dims conditions _ _ _ c.without-chosen-2.ensures suppliers in
    let parts = keep_on dims conditions _ _ _ c.without-chosen-3.ensures customers in
    keep_on dims conditions _ _ _ c.without.ensures parts
