use Rattle.std.proofs.Common.{ℕ, List, length, take}
use Rattle.cube_model.specs.declared.rows.DimRows.{DimRows}
use Rattle.lattice.specs.declared.view.View.{View}
use Rattle.cuboid_upkeep.specs.declared.member_codes.ViewMembers.{ViewMembers}
use Rattle.cuboid_upkeep.specs.Keys.{AreRowKeys}
use Rattle.cuboid_upkeep.specs.Steps.{AreKeyed}
use Rattle.cuboid_upkeep.proofs.GroupingLemmas.{Grouping}
use Rattle.cuboid_upkeep.proofs.grouping.take_in_rows.Given as goal

abbrev pub invariant-loop-place : goal.invariant-loop-place
invariant-loop-place g l =
    let rows = g.F.FactRows.rows l.rows in
    AreKeyed l.numbers.keys l.cells.items
    × ((dimensions : DimRows) (modes : List (List ℕ)) (view : View) (members : ViewMembers)
    → AreRowKeys dimensions modes view members rows (length rows) l.keys
    → Grouping dimensions modes view (take l.place rows) l.numbers.keys l.cells.items)
