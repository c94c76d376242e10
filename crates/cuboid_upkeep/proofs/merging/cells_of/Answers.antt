use Rattle.std.proofs.Common.{inl, inr, sym, subst, List, length}
use Rattle.std.specs.Option.{option_map}
use Rattle.std.proofs.lemmas.Result.{err_from_is_err_and}
use Rattle.cuboid_cells.specs.declared.key.Key.{Key}
use Rattle.cuboid_cells.specs.Cells.{PlainCells}
use Rattle.cuboid_upkeep.specs.Codes.{modes_of}
use Rattle.cuboid_upkeep.specs.Grouping.{RepresentRows}
use Rattle.cuboid_upkeep.specs.Keys.{AreRowKeys}
use Rattle.cuboid_upkeep.specs.Modes.{AreOwnCodes}
use Rattle.cuboid_upkeep.proofs.Sorted.{they_are_proper, they_represent}
use Rattle.cuboid_upkeep.proofs.merging.cells_of.Goals as goal

pub of-requires : goal.of-requires
of-requires g c =
    let rows = g.F.FactRows.rows c.args.rows.now in
    let modes = modes_of (option_map (λ modes. modes.now) c.args.modes) in
    let codes =
    subst (AreOwnCodes modes c.args.view (g.F.ModeRows.modes c.args.rows.now)) (sym c.as_slice.ensures.value)
    c.in_ok-codes.ensures in
    let keyed = subst (λ (l : List Key). AreRowKeys c.args.dims.now modes c.args.view c.args.members.now rows
    (length rows) l) (sym c.as_slice-2.ensures.value) (c.in_ok-keys.ensures.ok modes codes) in
    they_are_proper c.args.dims.now modes c.args.view rows c.in_ok-cells.cells.items c.sort.new.cells.items
    (c.in_ok-cells.ensures.ok c.args.dims.now modes c.args.view c.args.members.now keyed) c.sort.ensures.same
    c.in_ok-sort.ensures.order c.requires.batch

pub returns-clause-ok : goal.returns-clause-ok
returns-clause-ok g c =
    let rows = g.F.FactRows.rows c.args.rows.now in
    let modes = modes_of (option_map (λ modes. modes.now) c.args.modes) in
    let codes =
    subst (AreOwnCodes modes c.args.view (g.F.ModeRows.modes c.args.rows.now)) (sym c.as_slice.ensures.value)
    c.in_ok-codes.ensures in
    let keyed = subst (λ (l : List Key). AreRowKeys c.args.dims.now modes c.args.view c.args.members.now rows
    (length rows) l) (sym c.as_slice-2.ensures.value) (c.in_ok-keys.ensures.ok modes codes) in
    subst (λ (plain : PlainCells). RepresentRows c.args.dims.now modes rows plain) (sym c.of.ensures)
    (they_represent c.args.dims.now modes c.args.view rows c.in_ok-cells.cells.items c.sort.new.cells.items
    (c.in_ok-cells.ensures.ok c.args.dims.now modes c.args.view c.args.members.now keyed) c.sort.ensures.same
    c.in_ok-sort.ensures.order)

pub returns-in_err-keys-clause-refused : goal.returns-in_err-keys-clause-refused
returns-in_err-keys-clause-refused g c =
    let p = err_from_is_err_and c.from_residual-in_err-keys.result c.from_residual-in_err-keys.ensures.1 in
    let modes = modes_of (option_map (λ modes. modes.now) c.args.modes) in
    let codes =
    subst (AreOwnCodes modes c.args.view (g.F.ModeRows.modes c.args.rows.now)) (sym c.as_slice.ensures.value)
    c.in_ok-codes.ensures in
    rw (p.1, p.2) (elim c.in_err-keys.ensures.refused [
      | inl memory ↦ inl memory
      | inr bad ↦ inr (bad.0, inl (bad.1 modes codes))
    ])

pub returns-in_err-cells-clause-refused : goal.returns-in_err-cells-clause-refused
returns-in_err-cells-clause-refused g c =
    let p = err_from_is_err_and c.from_residual-in_err-cells.result c.from_residual-in_err-cells.ensures.1 in
    let rows = g.F.FactRows.rows c.args.rows.now in
    let modes = modes_of (option_map (λ modes. modes.now) c.args.modes) in
    let codes =
    subst (AreOwnCodes modes c.args.view (g.F.ModeRows.modes c.args.rows.now)) (sym c.as_slice.ensures.value)
    c.in_ok-codes.ensures in
    let keyed = subst (λ (l : List Key). AreRowKeys c.args.dims.now modes c.args.view c.args.members.now rows
    (length rows) l) (sym c.as_slice-2.ensures.value) (c.in_ok-keys.ensures.ok modes codes) in
    rw (p.1, p.2) (elim c.in_err-cells.ensures.refused [
      | inl memory ↦ inl memory
      | inr bad ↦ inr (bad.0, bad.1 c.args.dims.now modes c.args.view c.args.members.now keyed)
    ])
