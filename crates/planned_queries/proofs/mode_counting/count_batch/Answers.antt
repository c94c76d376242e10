use Rattle.std.proofs.lemmas.Result.{on_ok_weaker}
use Rattle.warehouse_objects.proofs.Folded.{some_of}
use Rattle.planned_queries.specs.ModesCounted.{AreCellsOf}
use Rattle.planned_queries.proofs.mode_counting.count_batch.Goals as goal

pub returns-in-Some-2-clause-ok : goal.returns-in-Some-2-clause-ok
returns-in-Some-2-clause-ok c =
    let rows = c.args.segment.now.rows in
    let cells = some_of (AreCellsOf c.args.dims.now c.coded.result.0.now.texts c.in-Some.view rows)
    c.in_ok-cells.field-0 c.in-Some-2.cells c.in-Some-2.is c.in_ok-cells.ensures.cells in
    on_ok_weaker c.add_cells.result (λ takes. takes rows cells.represent) c.add_cells.ensures.ok

pub returns-in-Some-2-clause-refused : goal.returns-in-Some-2-clause-refused
returns-in-Some-2-clause-refused c = λ is can.
    let rows = c.args.segment.now.rows in
    let cells = some_of (AreCellsOf c.args.dims.now c.coded.result.0.now.texts c.in-Some.view rows)
    c.in_ok-cells.field-0 c.in-Some-2.cells c.in-Some-2.is c.in_ok-cells.ensures.cells in
    c.add_cells.ensures.refused is rows cells.represent can
