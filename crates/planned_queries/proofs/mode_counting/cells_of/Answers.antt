use Rattle.std.proofs.Common.{◌∙◌, List, [], sym, ap, subst}
use Rattle.cube_model.specs.declared.rows.LineOrder.{LineOrder}
use Rattle.cuboid_cells.specs.Cells.{PlainCells}
use Rattle.cuboid_upkeep.specs.Growing.{grown}
use Rattle.cuboid_upkeep.specs.Grouping.{RepresentRows}
use Rattle.planned_queries.specs.ModesCounted.{AreCellsOf}
use Rattle.planned_queries.proofs.Members.{none_represent}
use Rattle.planned_queries.proofs.mode_counting.cells_of.Goals as goal

pub finish-requires : goal.finish-requires
finish-requires c = (c.args.dims.now, c.in-Ok.ensures.over)

pub returns-in-Ok-clause-cells : goal.returns-in-Ok-clause-cells
returns-in-Ok-clause-cells c =
    subst (AreCellsOf c.args.dims.now c.args.modes.now.texts c.args.view c.args.segment.now.rows)
    (sym c.in_ok-finish-in-Ok.ensures.ok) (record {
      view_is = c.in-Ok.ensures.view ∙ ap (λ (cells : PlainCells). cells.view) c.in_ok-cells.ensures.none;
      represent = subst (λ (rows : List LineOrder). RepresentRows c.args.dims.now c.args.modes.now.texts rows
          (grown c.add_rows.new.self)) c.of-rows.ensures.rows
          (c.in-Ok.ensures.ok []
          (none_represent c.args.dims.now c.args.modes.now.texts c.args.view (grown c.in_ok-cells.cells)
          c.in_ok-cells.ensures.none));
    })
