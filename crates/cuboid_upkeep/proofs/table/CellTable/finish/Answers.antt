use Rattle.std.proofs.Common.{◌∙◌, sym, ap, subst, List}
use Rattle.cuboid_cells.specs.declared.cell.Cell.{Cell}
use Rattle.cuboid_cells.specs.Cells.{AreProperCells}
use Rattle.cuboid_upkeep.specs.Slots.{used}
use Rattle.cuboid_upkeep.proofs.Tables.{table_proper}
use Rattle.cuboid_upkeep.proofs.table.CellTable.finish.Goals as goal

pub of-requires : goal.of-requires
of-requires c =
    subst (λ (l : List Cell). AreProperCells (record { view = c.args.self.view; cells = l }))
    (sym (c.in_ok-cells.ensures ∙ ap used c.as_slice.ensures.value))
    (table_proper c.requires.0 c.args.self c.requires.1)
