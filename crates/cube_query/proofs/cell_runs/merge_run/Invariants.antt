use Rattle.std.proofs.Common.{◌≡◌, ◌-◌, ◌≤◌, ℕ, List, length}
use Rattle.wire.specs.Runs.{HasRead}
use Rattle.cuboid_cells.specs.Pieces.{AreLeft}
use Rattle.cuboid_cells.specs.declared.cell.Cell.{Cell}
use Rattle.group_numbers.specs.Numbers.{group_count}
use Rattle.group_tallies.specs.Columns.{tallies_at}
use Rattle.group_tallies.specs.Slots.{entries_of, Cover, Grow}
use Rattle.cube_query.proofs.CellRunsLemmas.{AreMergedTo}
use Rattle.cube_query.proofs.cell_runs.merge_run.Given as goal

abbrev pub decreases-loop-source : goal.decreases-loop-source
decreases-loop-source g l = l.run.head.count - l.run.done

abbrev pub invariant-loop-source : goal.invariant-loop-source
invariant-loop-source g l =
    let text = g.S.Source.texts l.initial.source l.initial.run.id in
    let bound = group_count l.numbers.dimensions l.numbers.query.columns in record {
      read : HasRead g.S.Source l.initial.source l.source;
      id : l.run.id ≡ l.initial.run.id;
      head : l.run.head ≡ l.initial.run.head;
      cover : Cover bound l.slots;
      grow : Grow bound (entries_of l.initial.slots) (entries_of l.slots);
      fresh : (slot : ℕ) → length (entries_of l.slots) ≤ slot
          → tallies_at l.columns slot ≡ tallies_at l.initial.columns slot;
      merged : g.S.Source.keeps_word l.source → (cells : List Cell) → AreLeft text l.initial.run cells
          → AreMergedTo l.numbers l.aggs (entries_of l.slots) text cells l.run l.initial.columns l.columns;
    }
