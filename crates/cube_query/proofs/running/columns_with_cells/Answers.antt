use Rattle.std.proofs.Common.{◌∙◌, List, ℕ, ap, inl, inr, subst, sym}
use Rattle.std.specs.Option.{option_map}
use Rattle.lattice.specs.declared.view.View.{View}
use Rattle.cube_model.specs.declared.measure.Agg.{Agg}
use Rattle.cuboid_cells.specs.declared.cell.Cell.{Cell}
use Rattle.cuboid_upkeep.specs.CellNumbers.{AskedOfCells}
use Rattle.cuboid_upkeep.specs.Codes.{modes_of}
use Rattle.cuboid_upkeep.proofs.Represented.{represents_among}
use Rattle.group_numbers.specs.GroupNumbers.{query_of}
use Rattle.cube_query.specs.CellSlots.{HaveNoRepresentative, asked_of}
use Rattle.cube_query.specs.CellTallies.{GroupsHaveRoomFor}
use Rattle.group_tallies.specs.Slots.{entries_of}
use Rattle.cube_query.proofs.running.columns_with_cells.Goals as goal

pub returns-clause-refused : goal.returns-clause-refused
returns-clause-refused c bad rows represent known room =
    let dims = c.args.dims.now in
    let plain = c.args.cells.now in
    let query = query_of c.args.grouping.now in
    let entries = entries_of c.with_cells.new.slots in
    let columns = c.args.columns.now in
    let modes : List (List ℕ) = modes_of (option_map (λ modes. modes.now) c.args.modes) in
    let aggregates = c.as_slice-aggregates.ensures ∙ ap (λ q. q.aggregates) c.query.ensures in
    elim (c.with_cells.ensures.refused bad) [
      | inl none ↦
          let asked = subst (λ (own : AskedOfCells). HaveNoRepresentative own c.as_slice-cells.result.now)
          c.in_ok-numbers.ensures.asked none in
          let seen = subst
          (λ (view : View). HaveNoRepresentative (asked_of dims query view modes) c.as_slice-cells.result.now)
          c.view-view.ensures.value asked in
          let own : HaveNoRepresentative (asked_of dims query plain.view modes) plain.cells =
          subst (λ (cells : List Cell). HaveNoRepresentative (asked_of dims query plain.view modes) cells)
          c.as_slice-cells.ensures.cells seen in
          let row = represents_among dims modes plain rows represent known own.cell own.among in
          own.none row.0 row.1
      | inr full ↦
          full (subst (λ (aggs : List Agg). GroupsHaveRoomFor entries aggs c.as_slice-cells.result.now columns)
          (sym aggregates)
          (subst (λ (cells : List Cell). GroupsHaveRoomFor entries query.aggregates cells columns)
          (sym c.as_slice-cells.ensures.cells) room))
    ]
