use Rattle.std.proofs.Common.{◌∙◌, ◌++◌, [], inl, inr, sym, subst, List, ℕ, length, arith}
use Rattle.std.proofs.lemmas.List.{take_all}
use Rattle.std.proofs.lemmas.Result.{err_from_is_err_and}
use Rattle.cube_model.specs.declared.rows.LineOrder.{LineOrder}
use Rattle.cuboid_upkeep.specs.Grouping.{RepresentRows}
use Rattle.cuboid_upkeep.specs.Keys.{AreRowNumbers}
use Rattle.cuboid_upkeep.specs.Slots.{cells_in, used}
use Rattle.cuboid_upkeep.proofs.Added.{unfit_after}
use Rattle.cuboid_upkeep.proofs.TableLemmas.{represent_alike, unfit_alike}
use Rattle.cuboid_upkeep.proofs.table.CellTable.add_rows.Goals as goal

pub take_in_rows-requires-clause-numbers : goal.take_in_rows-requires-clause-numbers
take_in_rows-requires-clause-numbers g c =
    let rows = g.F.FactRows.rows c.args.rows.now in
    subst (λ (l : List ℕ). AreRowNumbers c.args.dims.now c.args.self.now.view c.args.self.now.members rows (length rows)
    l) (sym c.as_slice.ensures.value) c.in_ok-numbers.ensures.ok

pub returns-in_err-numbers-clause-refused : goal.returns-in_err-numbers-clause-refused
returns-in_err-numbers-clause-refused g c =
    let p = err_from_is_err_and c.from_residual.result c.from_residual.ensures.1 in
    let rows = g.F.FactRows.rows c.args.rows.now in
    rw (p.1, p.2) (λ modes so_far represent. elim c.in_err-numbers.ensures.refused [
      | inl memory ↦ inl memory
      | inr bad ↦ inr (
        bad.0,
        unfit_alike c.args.dims.now c.args.self.now.view c.requires.over.no_modes [] modes (so_far ++ rows)
            (unfit_after c.args.dims.now [] c.args.self.now.view so_far rows (inl bad.1)),
      )
    ])

pub returns-in_err-free-clause-refused : goal.returns-in_err-free-clause-refused
returns-in_err-free-clause-refused g c =
    let p = err_from_is_err_and c.from_residual-in_err-free.result c.from_residual-in_err-free.ensures.1 in
    let rows = g.F.FactRows.rows c.args.rows.now in
    let view = c.args.self.now.view in
    rw (p.1, p.2) (λ modes so_far represent. inr (
      c.in_err-free.ensures.refused.0,
      unfit_alike c.args.dims.now view c.requires.over.no_modes [] modes (so_far ++ rows)
          (c.in_err-free.ensures.refused.1 so_far
          (represent_alike c.args.dims.now view c.requires.over.no_modes modes [] so_far
          (used c.args.self.now.slots.items) represent)),
    ))

pub returns-clause-ok : goal.returns-clause-ok
returns-clause-ok g c modes so_far represent =
    let rows = g.F.FactRows.rows c.args.rows.now in
    let view = c.args.self.now.view in
    let none = c.requires.over.no_modes in
    represent_alike c.args.dims.now view none [] modes (so_far ++ rows) (used c.take_in_rows.new.slots.items)
    (subst (λ (l : List LineOrder). RepresentRows c.args.dims.now [] (so_far ++ l)
    (cells_in c.args.self.now.view c.take_in_rows.new.slots.items)) (take_all (length rows) rows (omega arith))
    (c.in_ok-free.ensures.ok.represent so_far
    (represent_alike c.args.dims.now view none modes [] so_far (used c.args.self.now.slots.items) represent)))

pub returns-clause-over : goal.returns-clause-over
returns-clause-over g c = record {
  no_modes = c.requires.over.no_modes;
  members = c.requires.over.members;
  few = c.requires.over.few;
  size = c.in_ok-free.ensures.ok.size ∙ c.requires.over.size;
  slots = c.in_ok-free.ensures.ok.slots;
}
