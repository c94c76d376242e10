use Rattle.std.proofs.Common.{◌≡◌, ◌++◌, List, length}
use Rattle.std.specs.List.{AllByRecursion}
use Rattle.cube_model.specs.declared.rows.LineOrder.{LineOrder}
use Rattle.cube_query.specs.Groups.{IsOver}
use Rattle.cuboid_upkeep.specs.Grouping.{RepresentRows}
use Rattle.mode_folds.specs.Parts.{HaveQuery, RepresentByMode}
use Rattle.mode_folds.proofs.CellPartsLemmas.{rows_before}
use Rattle.mode_folds.proofs.cell_parts.add_cells_by_mode.Given as goal

abbrev pub invariant-loop-part : goal.invariant-loop-part
invariant-loop-part l = record {
  count : l.code ≡ length l.yielded;
  over : AllByRecursion (IsOver l.dims) l.folds.items;
  queries : HaveQuery l.query l.folds.items;
  represent : (rows so_far : List LineOrder) → RepresentRows l.dims l.modes.texts rows l.cells
      → RepresentByMode l.dims l.query so_far l.initial.own.texts l.initial.folds.items
      → RepresentByMode l.dims l.query (so_far ++ rows_before l.modes.texts l.code rows) l.own.texts l.folds.items;
}
