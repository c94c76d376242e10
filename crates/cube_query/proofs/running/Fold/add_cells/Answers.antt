use Rattle.std.proofs.Common.{◌≡◌, ◌∙◌, Err, List, ℕ, [], length, sym, ap, subst, arith}
use Rattle.std.specs.Option.{option_map}
use Rattle.std.specs.declared.alloc.Global.{Global}
use Rattle.std.specs.declared.vec.Vec.{Vec}
use Rattle.std.proofs.lemmas.Result.{err_from_is_err_and}
use Rattle.cube_model.specs.declared.fault.Fault.TheVariants.{BadLayout}
use Rattle.cuboid_upkeep.specs.Codes.{modes_of}
use Rattle.group_numbers.specs.GroupNumbers.{query_of}
use Rattle.lattice.specs.Determined.{Serves}
use Rattle.cube_query.specs.CellSlots.{AreMergedIn, asked_of}
use Rattle.cube_query.specs.CellTallies.{GroupsHaveRoomFor}
use Rattle.cube_query.specs.Groups.{CanTake, FoldState, IsOver, RepresentsRows}
use Rattle.group_tallies.specs.Slots.{entries_of}
use Rattle.group_tallies.specs.declared.tally.Tally.{Tally}
use Rattle.cube_query.proofs.RunningLemmas.{kept_merged, room_for_cells, shown_with_slots, represents_merged}
use Rattle.group_tallies.proofs.Columnwise.{tallies-length}
use Rattle.cube_query.proofs.Known.{known_after}
use Rattle.cube_query.proofs.running.Fold.add_cells.Goals as goal

pub columns_with_cells-requires-clause-columns : goal.columns_with_cells-requires-clause-columns
columns_with_cells-requires-clause-columns c =
    let inside = c.self.inside in
    let entries = entries_of inside.slots in
    ap length c.as_slice-columns.ensures.value
    ∙ tallies-length (query_of inside.grouping).aggregates inside.columns.items (length entries) []
    (c.self.invariant.fresh (length entries) (omega arith))

pub returns-in_err-merged : goal.returns-in_err-merged
returns-in_err-merged c =
    let p = err_from_is_err_and c.from_residual.result c.from_residual.ensures.1 in
    let inside = c.self.inside in
    let dims = c.args.dims.now in
    let plain = c.args.cells.now in
    let modes : List (List ℕ) = modes_of (option_map (λ modes. modes.now) c.args.modes) in
    let over = subst (λ (state : FoldState). IsOver dims state) (sym c.self.view_is) c.requires.over in
    let same = shown_with_slots dims inside.grouping over inside.slots inside.columns.items c.self.invariant
    c.columns_with_cells.new.slots c.columns_with_cells.ensures.cover c.columns_with_cells.ensures.grow
    ∙ c.self.view_is in
    rw (p.1, p.2) (record {
      over = over;
      query = ap (λ (state : FoldState). state.query) same;
      ok = tt;
      err = same;
      refused = λ bad rows represent can.
          let given = subst (λ (state : FoldState). CanTake dims state rows) (sym c.self.view_is) can in
          let room = room_for_cells dims inside.grouping over inside.slots inside.columns.items c.self.invariant
          c.columns_with_cells.new.slots c.columns_with_cells.ensures.cover c.columns_with_cells.ensures.grow modes
          plain rows represent given.0 given.1.0 given.1.1 in
          let is : c.in_err-merged.field-0.0 ≡ BadLayout = cc bad in
          c.in_err-merged.ensures.refused (ap (λ fault. Err fault) is) rows represent
          (known_after dims 1 given.0 rows given.1.1.known)
          (subst (λ (columns : List (Vec Tally Global)). GroupsHaveRoomFor
          (entries_of c.columns_with_cells.new.slots) (query_of inside.grouping).aggregates plain.cells columns)
          (sym c.as_slice-columns.ensures.value) room);
      only = c.in_err-merged.ensures.only;
    })

pub invariant_of-self-2 : goal.invariant_of-self-2
invariant_of-self-2 c =
    let inside = c.self.inside in
    let dims = c.args.dims.now in
    let plain = c.args.cells.now in
    let modes : List (List ℕ) = modes_of (option_map (λ modes. modes.now) c.args.modes) in
    let over = subst (λ (state : FoldState). IsOver dims state) (sym c.self.view_is) c.requires.over in
    let merged = c.in_ok-merged.merged.items in
    let are = subst
    (λ (columns : List (Vec Tally Global)). AreMergedIn (asked_of dims (query_of inside.grouping) plain.view modes)
    (query_of inside.grouping).aggregates (entries_of c.columns_with_cells.new.slots) plain.cells columns merged)
    c.as_slice-columns.ensures.value c.in_ok-merged.ensures.merged in
    kept_merged dims inside.grouping over inside.slots inside.columns.items c.self.invariant
    c.columns_with_cells.new.slots
    c.columns_with_cells.ensures.cover c.columns_with_cells.ensures.grow modes plain merged are

pub returns : goal.returns
returns c =
    let inside = c.self.inside in
    let dims = c.args.dims.now in
    let plain = c.args.cells.now in
    let modes : List (List ℕ) = modes_of (option_map (λ modes. modes.now) c.args.modes) in
    let over = subst (λ (state : FoldState). IsOver dims state) (sym c.self.view_is) c.requires.over in
    let serves = subst (λ (state : FoldState). Serves plain.view state.query) (sym c.self.view_is) c.requires.serves in
    let merged = c.in_ok-merged.merged.items in
    let are = subst
    (λ (columns : List (Vec Tally Global)). AreMergedIn (asked_of dims (query_of inside.grouping) plain.view modes)
    (query_of inside.grouping).aggregates (entries_of c.columns_with_cells.new.slots) plain.cells columns merged)
    c.as_slice-columns.ensures.value c.in_ok-merged.ensures.merged in
    record {
      over = over;
      query = ap (λ (state : FoldState). state.query) c.self.view_is;
      ok = λ rows represent. record {
        query = ap (λ (state : FoldState). state.query) c.self.view_is;
        represents = λ so_far represents.
            represents_merged dims inside.grouping over inside.slots inside.columns.items c.self.invariant
            c.columns_with_cells.new.slots c.columns_with_cells.ensures.cover c.columns_with_cells.ensures.grow modes
            plain merged are
            c.columns_with_cells.ensures.storable serves rows represent so_far
            (subst (λ (state : FoldState). RepresentsRows dims state so_far) (sym c.self.view_is) represents);
      };
      err = tt;
      refused = λ bad rows represent can. cc bad;
      only = tt;
    }
