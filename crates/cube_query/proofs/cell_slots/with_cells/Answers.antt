use Rattle.std.proofs.Common.{◌≡◌, ◌∙◌, List, Err, ap, inl, inr, length, sym, subst}
use Rattle.std.proofs.lemmas.Result.{err_from_is_err_and}
use Rattle.std.specs.declared.alloc.Global.{Global}
use Rattle.std.specs.declared.vec.Vec.{Vec}
use Rattle.cube_model.specs.declared.fault.Fault.TheVariants.{BadLayout}
use Rattle.group_numbers.specs.Numbers.{group_count}
use Rattle.cube_query.specs.CellTallies.{GroupsHaveRoomFor}
use Rattle.group_tallies.specs.Slots.{entries_of, Grow}
use Rattle.group_tallies.specs.declared.slots.Slots.{Slots}
use Rattle.group_tallies.specs.declared.tally.Tally.{Tally}
use Rattle.cube_query.proofs.CellMerges.{as_many}
use Rattle.cube_query.proofs.CellSlotsLemmas.{rooms_of_copy}
use Rattle.group_tallies.proofs.Placing.{Grow-same}
use Rattle.cube_query.proofs.cell_slots.with_cells.Goals as goal

pub merge_cells-requires-clause-columns : goal.merge_cells-requires-clause-columns
merge_cells-requires-clause-columns c = ap length c.as_mut_slice.ensures.value
    ∙ as_many c.in_ok-merged.merged.items c.args.columns.now c.in_ok-merged.ensures ∙ c.requires.columns

pub returns-in_err-merge_cells-clause-refused : goal.returns-in_err-merge_cells-clause-refused
returns-in_err-merge_cells-clause-refused c =
    let p = err_from_is_err_and c.from_residual-in_err-merge_cells.result
    c.from_residual-in_err-merge_cells.ensures.1 in
    rw (p.1, p.2) (λ bad.
    let is : c.in_err-merge_cells.field-0.0 ≡ BadLayout = cc bad in
    let entries = entries_of c.merge_cells.new.slots in
    let aggs = c.args.aggs.now in
    let cells = c.args.cells.now in
    elim (c.in_err-merge_cells.ensures.refused (ap (λ fault. Err fault) is)) [
      | inl none ↦ inl none
      | inr full ↦ inr (λ room.
          full (subst (λ (columns : List (Vec Tally Global)). GroupsHaveRoomFor entries aggs cells columns)
          (sym c.as_mut_slice.ensures.value)
          (rooms_of_copy aggs entries cells c.args.columns.now c.in_ok-merged.merged.items c.in_ok-merged.ensures
          room)))
    ])

pub returns-in_err-merge_cells-clause-grow : goal.returns-in_err-merge_cells-clause-grow
returns-in_err-merge_cells-clause-grow c =
    let bound = group_count c.args.numbers.now.dimensions c.args.numbers.now.query.columns in
    let first = entries_of c.args.slots.now in
    c.merge_cells.ensures.grow first
    (subst (λ (slots : Slots). Grow bound first (entries_of slots)) (sym c.reserve.ensures)
    (Grow-same bound first c.requires.numbers))

pub returns-clause-grow : goal.returns-clause-grow
returns-clause-grow c =
    let bound = group_count c.args.numbers.now.dimensions c.args.numbers.now.query.columns in
    let first = entries_of c.args.slots.now in
    c.merge_cells.ensures.grow first
    (subst (λ (slots : Slots). Grow bound first (entries_of slots)) (sym c.reserve.ensures)
    (Grow-same bound first c.requires.numbers))
