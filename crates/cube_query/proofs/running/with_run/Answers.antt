use Rattle.std.proofs.Common.{◌∙◌, List, ℕ, ap, inl, inr, subst, sym}
use Rattle.std.specs.Option.{option_map}
use Rattle.cube_model.specs.declared.measure.Agg.{Agg}
use Rattle.cuboid_cells.specs.declared.head.RunHead.{RunHead}
use Rattle.cuboid_upkeep.specs.CellNumbers.{AskedOfCells}
use Rattle.cuboid_upkeep.specs.Codes.{modes_of}
use Rattle.group_numbers.specs.GroupNumbers.{query_of}
use Rattle.cube_query.specs.CellSlots.{HaveNoRepresentative, asked_of}
use Rattle.cube_query.specs.CellTallies.{GroupsHaveRoomFor}
use Rattle.group_tallies.specs.Slots.{entries_of}
use Rattle.cube_query.proofs.running.with_run.Goals as goal

pub returns-clause-refused : goal.returns-clause-refused
returns-clause-refused g c = λ bad keeps cells left.
    let dims = c.args.dims.now in
    let query = query_of c.args.grouping.now in
    let entries = entries_of c.merge_run.new.slots in
    let modes : List (List ℕ) = modes_of (option_map (λ modes. modes.now) c.args.modes) in
    let aggregates = c.as_slice-aggregates.ensures ∙ ap (λ q. q.aggregates) c.query.ensures in
    elim (c.merge_run.ensures.refused bad keeps cells left) [
      | inl none ↦
          (let asked = subst (λ (own : AskedOfCells). HaveNoRepresentative own cells) c.in_ok-numbers.ensures.asked
          none in
          inl (subst (λ (head : RunHead). HaveNoRepresentative (asked_of dims query head.view modes) cells)
          c.head.ensures
          asked))
      | inr full ↦ inr (λ room. full
          (subst (λ (aggs : List Agg). GroupsHaveRoomFor entries aggs cells c.args.columns.now) (sym aggregates) room))
    ]
