use Rattle.std.proofs.Common.{◌<◌, ◌≤◌, ◌∙◌, [], inl, inr, sym, ap, subst, length, map, nat_eq, arith}
use Rattle.std.specs.List.{IsDistinct}
use Rattle.std.proofs.lemmas.Result.{err_from_is_err_and}
use Rattle.cuboid_cells.specs.Cells.{key_as_number}
use Rattle.cuboid_upkeep.proofs.GroupingLemmas.{are_grouped, none_yet, one_more, row_overflows}
use Rattle.cuboid_upkeep.proofs.Rows.{none_fits}
use Rattle.cuboid_upkeep.proofs.Tables.{own_key_in}
use Rattle.cuboid_upkeep.proofs.grouping.take_in_rows.Goals as goal

pub loop-place-init : goal.loop-place-init
unfolding IsDistinct
loop-place-init g c =
    let keys = c.args.numbers.now.keys in
    let cells = c.args.cells.now.items in
    let once : IsDistinct nat_eq keys = subst (IsDistinct nat_eq) (sym c.requires.no_number) tt in (
      record {
        keys_are = c.requires.no_number ∙ ap (map (λ cell. key_as_number cell.key)) (sym c.requires.no_cell);
        once = once;
      },
      λ dims modes view members are. none_yet dims modes view keys c.requires.no_number once cells c.requires.no_cell,
    )

pub loop-place-preserved : goal.loop-place-preserved
loop-place-preserved g c =
    let rows = g.F.FactRows.rows c.args.rows.now in
    let within : c.loop-place.place < length rows =
    omega (arith, c.loop-place-test.true, c.count-place-end.ensures) in (
      c.in_ok-take_in.ensures.keyed,
      λ dims modes view members are.
          one_more dims modes view rows c.loop-place.place within c.loop-place.numbers.keys c.take_in.new.numbers.keys
          c.loop-place.cells.items c.take_in.new.cells.items c.in_ok-cell.cell
          (c.loop-place.invariant.1 dims modes view members are)
          (c.in_ok-cell.ensures.ok dims modes view
          (own_key_in dims modes view members rows c.loop-place.place within c.args.keys.now c.key_at-key.result
          c.key_at-key.ensures are).is)
          c.in_ok-take_in.ensures.keyed c.in_ok-take_in.ensures.ok,
    )

pub returns-in_err-cell-clause-refused : goal.returns-in_err-cell-clause-refused
returns-in_err-cell-clause-refused g c =
    let p = err_from_is_err_and c.from_residual.result c.from_residual.ensures.1 in
    let rows = g.F.FactRows.rows c.args.rows.now in
    let within : c.loop-place.place < length rows = omega (arith, c.loop-place-test.true, c.count-place-end.ensures) in
    rw (p.1, p.2) (inr (
      c.in_err-cell.ensures.refused.0,
      λ dims modes view members are.
          none_fits dims modes view rows c.loop-place.place within [] (c.in_err-cell.ensures.refused.1 dims modes view),
    ))

pub returns-in_err-take_in-clause-refused : goal.returns-in_err-take_in-clause-refused
returns-in_err-take_in-clause-refused g c =
    let p = err_from_is_err_and c.from_residual-in_err-take_in.result c.from_residual-in_err-take_in.ensures.1 in
    let rows = g.F.FactRows.rows c.args.rows.now in
    let within : c.loop-place.place < length rows = omega (arith, c.loop-place-test.true, c.count-place-end.ensures) in
    rw (p.1, p.2) (elim c.in_err-take_in.ensures.refused [
      | inl memory ↦ inl memory
      | inr over ↦ inr (
        over.0,
        λ dims modes view members are.
            row_overflows dims modes view rows c.loop-place.place within c.loop-place.numbers.keys
            c.loop-place.cells.items
            c.in_ok-cell.cell
            (c.loop-place.invariant.1 dims modes view members are)
            (c.in_ok-cell.ensures.ok dims modes view
            (own_key_in dims modes view members rows c.loop-place.place within c.args.keys.now c.key_at-key.result
            c.key_at-key.ensures are).is) over.1,
      )
    ])

pub returns-clause-ok : goal.returns-clause-ok
returns-clause-ok g c =
    let rows = g.F.FactRows.rows c.args.rows.now in
    let all : length rows ≤ c.loop-place.place = omega (arith, c.loop-place-test.false, c.count-place-end.ensures) in
    λ dims modes view members are.
    are_grouped dims modes view rows c.loop-place.place all c.loop-place.numbers.keys c.loop-place.cells.items
    (c.loop-place.invariant.1 dims modes view members are)
