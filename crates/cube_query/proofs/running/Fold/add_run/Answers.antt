use Rattle.std.proofs.Common.{◌≡◌, ◌∙◌, ◌++◌, ℕ, List, [], inl, inr, length, take, drop, sym, ap, subst, arith}
use Rattle.std.proofs.Math.Seq.{take-append_seam}
use Rattle.std.specs.Option.{option_map}
use Rattle.std.specs.declared.alloc.Global.{Global}
use Rattle.std.specs.declared.vec.Vec.{Vec}
use Rattle.cuboid_cells.specs.Steps.{cells_of}
use Rattle.cuboid_cells.proofs.Continuing.{on_ok}
use Rattle.cuboid_upkeep.specs.Codes.{modes_of}
use Rattle.cuboid_upkeep.proofs.Represented.{represents_among}
use Rattle.group_numbers.specs.GroupNumbers.{query_of}
use Rattle.lattice.specs.Determined.{Serves}
use Rattle.cube_query.specs.CellRuns.{AreWantedMerged}
use Rattle.cube_query.specs.CellSlots.{asked_of}
use Rattle.cube_query.specs.CellTallies.{GroupsHaveRoomFor}
use Rattle.group_tallies.specs.Columns.{tallies_at}
use Rattle.group_tallies.specs.FoldInvariant.{IsKept}
use Rattle.cube_query.specs.Groups.{CanTake, FoldState, IsOver, RepresentsRows}
use Rattle.group_tallies.specs.Slots.{entries_of}
use Rattle.group_tallies.specs.declared.tally.Tally.{Tally}
use Rattle.cube_query.proofs.RunningLemmas.{kept_after, represents_wanted, room_for_cells, shown}
use Rattle.group_tallies.proofs.Columnwise.{tallies-length}
use Rattle.cube_query.proofs.Known.{known_after}
use Rattle.cube_query.proofs.running.Fold.add_run.Goals as goal

pub with_run-requires-clause-columns : goal.with_run-requires-clause-columns
with_run-requires-clause-columns g c =
    let inside = c.self.inside in
    let entries = entries_of inside.slots in
    ap length c.as_mut_slice-columns.ensures.value
    ∙ tallies-length (query_of inside.grouping).aggregates inside.columns.items (length entries) []
    (c.self.invariant.fresh (length entries) (omega arith))

-- what is written over all of a vector is what it has
written : (n : ℕ) (new old : List (Vec Tally Global)) → length new ≡ n → take n (new ++ drop (length new) old) ≡ new
written n new old many = ap (λ (m : ℕ). take m (new ++ drop (length new) old)) (sym many)
    ∙ take-append_seam new (drop (length new) old)

pub invariant_of-self : goal.invariant_of-self
invariant_of-self g c =
    let inside = c.self.inside in
    let dims = c.args.dims.now in
    let over = subst (λ (state : FoldState). IsOver dims state) (sym c.self.view_is) c.requires.over in
    let new = c.with_run.new.columns in
    let many : length new ≡ inside.columns.len =
    omega (arith, c.with_run.auto.columns, ap length c.as_mut_slice-columns.ensures.value, inside.columns.ok.0) in
    subst (λ (columns : List (Vec Tally Global)). IsKept inside.grouping c.with_run.new.slots columns)
    (sym (written inside.columns.len new inside.columns.items many))
    (kept_after dims inside.grouping over inside.slots inside.columns.items c.self.invariant c.with_run.new.slots
    c.with_run.ensures.cover c.with_run.ensures.grow c.with_run.new.columns
    (λ slot h. c.with_run.ensures.fresh slot h
    ∙ ap (λ (columns : List (Vec Tally Global)). tallies_at columns slot) c.as_mut_slice-columns.ensures.value))

pub returns-clause-ok : goal.returns-clause-ok
returns-clause-ok g c =
    let inside = c.self.inside in
    let dims = c.args.dims.now in
    let view = c.args.run.now.head.view in
    let modes : List (List ℕ) = modes_of (option_map (λ modes. modes.now) c.args.modes) in
    let new = c.with_run.new.slots in
    on_ok c.with_run.result (λ merged keeps cells left rows represent.
    let over = subst (λ (state : FoldState). IsOver dims state) (sym c.self.view_is) c.requires.over in
    let serves = subst (λ (state : FoldState). Serves view state.query) (sym c.self.view_is) c.requires.serves in
    let are = subst (λ (columns : List (Vec Tally Global)). AreWantedMerged
    (asked_of dims (query_of inside.grouping) view modes) (query_of inside.grouping).aggregates (entries_of new) cells
    columns c.with_run.new.columns)
    c.as_mut_slice-columns.ensures.value (merged keeps cells left) in
    let many : length c.with_run.new.columns ≡ inside.columns.len =
    omega (arith, c.with_run.auto.columns, ap length c.as_mut_slice-columns.ensures.value, inside.columns.ok.0) in
    record {
      query = ap (λ (state : FoldState). state.query) c.self.view_is;
      represents = λ so_far represents.
          subst (λ (columns : List (Vec Tally Global)). RepresentsRows dims (shown inside.grouping new columns)
          (so_far ++ rows))
          (sym (written inside.columns.len c.with_run.new.columns inside.columns.items many))
          (represents_wanted dims inside.grouping over inside.slots inside.columns.items c.self.invariant new
          c.with_run.ensures.cover c.with_run.ensures.grow modes (cells_of view cells) c.with_run.new.columns are
          c.with_run.ensures.storable serves rows represent so_far
          (subst (λ (state : FoldState). RepresentsRows dims state so_far) (sym c.self.view_is) represents));
    }) c.with_run.ensures.merged

pub returns-clause-refused : goal.returns-clause-refused
returns-clause-refused g c = λ bad keeps cells left rows represent can.
    let inside = c.self.inside in
    let dims = c.args.dims.now in
    let query = query_of inside.grouping in
    let plain = cells_of c.args.run.now.head.view cells in
    let modes : List (List ℕ) = modes_of (option_map (λ modes. modes.now) c.args.modes) in
    let entries = entries_of c.with_run.new.slots in
    let over = subst (λ (state : FoldState). IsOver dims state) (sym c.self.view_is) c.requires.over in
    let given = subst (λ (state : FoldState). CanTake dims state rows) (sym c.self.view_is) can in
    elim (c.with_run.ensures.refused bad keeps cells left) [
      | inl none ↦
          (let row = represents_among dims modes plain rows represent (known_after dims 1 given.0 rows given.1.1.known)
          none.cell none.among in
          none.none row.0 row.1)
      | inr full ↦
          full (subst (λ (columns : List (Vec Tally Global)). GroupsHaveRoomFor entries query.aggregates cells columns)
          (sym c.as_mut_slice-columns.ensures.value)
          (room_for_cells dims inside.grouping over inside.slots inside.columns.items c.self.invariant
          c.with_run.new.slots
          c.with_run.ensures.cover c.with_run.ensures.grow modes plain rows represent given.0 given.1.0 given.1.1))
    ]
