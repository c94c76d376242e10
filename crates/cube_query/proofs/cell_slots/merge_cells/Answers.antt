use Rattle.std.proofs.Common.{◌≡◌, ℕ, ◌+◌, ◌≤◌, ◌∙◌, ◌++◌, ◌∷◌, List, [], Err, inl, inr, ap, refl, sym, subst, take}
use Rattle.std.proofs.Common.{length, get_or, arith}
use Rattle.std.proofs.lemmas.List.{take_more}
use Rattle.std.proofs.lemmas.List.Elements.{Contains-get_or}
use Rattle.std.proofs.lemmas.Result.{err_from_is_err_and}
use Rattle.cube_model.specs.declared.fault.Fault.TheVariants.{BadLayout}
use Rattle.cuboid_cells.specs.declared.cell.Cell.{Cell}
use Rattle.cube_query.specs.CellSlots.{AreMergedIn}
use Rattle.cuboid_upkeep.specs.CellNumbers.{AskedOfCells}
use Rattle.group_numbers.specs.Numbers.{group_count}
use Rattle.group_tallies.specs.Slots.{entries_of, Grow}
use Rattle.group_tallies.specs.declared.slots.Slots.{Slots}
use Rattle.group_tallies.specs.declared.tally.Tally.{Tally}
use Rattle.group_tallies.proofs.Placing.{Grow-same}
use Rattle.cube_query.proofs.CellMerges.{no_cell}
use Rattle.cube_query.proofs.CellSlotsLemmas.{none_yet, one_more, rooms_next}
use Rattle.cube_query.proofs.cell_slots.merge_cells.Goals as goal

-- what is so after the last of fewer slots is so after the last of more
still : (asked : AskedOfCells) (old new : Slots) (first : List (ℕ × ℕ))
    → Grow (group_count asked.dimensions asked.query.columns) first (entries_of old)
    → ((start : List (ℕ × ℕ)) → Grow (group_count asked.dimensions asked.query.columns) start (entries_of old)
    → Grow (group_count asked.dimensions asked.query.columns) start (entries_of new))
    → (slot : ℕ) → length (entries_of new) ≤ slot → {a b c : List Tally} → a ≡ b
    → (length (entries_of old) ≤ slot → b ≡ c) → a ≡ c
still asked old new first grown grow slot h {a} {b} {c} one other =
    let bound = group_count asked.dimensions asked.query.columns in
    let more = grow (entries_of old) (Grow-same bound (entries_of old) grown.slots) in
    one ∙ other (omega (arith, h, more.longer))

pub loop-place-init : goal.loop-place-init
loop-place-init c = (
  none_yet c.args.numbers.now c.args.aggs.now (entries_of c.args.slots.now) c.args.columns.now c.requires.columns,
  refl,
  c.requires.cover,
  λ first grown. grown,
  λ first grown slot h. refl,
)

pub loop-place-preserved : goal.loop-place-preserved
loop-place-preserved c =
    let asked = c.args.numbers.now in
    let aggs = c.args.aggs.now in
    let place = c.loop-place.place in
    let all = c.args.cells.now in
    let new = entries_of c.merge_one.new.slots in
    let cells : take (place + 1) all ≡ take place all ++ get_or all place no_cell ∷ [] =
    take_more all place no_cell c.loop-place-test.true in (
      subst (λ (cs : List Cell). AreMergedIn asked aggs new cs c.args.columns.now c.merge_one.new.columns) (sym cells)
          (one_more asked aggs (entries_of c.loop-place.slots) new c.merge_one.ensures.keep (take place all)
          (get_or all place no_cell) c.args.columns.now c.loop-place.columns c.merge_one.new.columns
          c.loop-place.invariant.0 c.in_ok-merge_one.ensures.merged),
      c.merge_one.auto.columns ∙ c.loop-place.invariant.1,
      c.merge_one.ensures.cover,
      λ first grown. c.merge_one.ensures.grow first (c.loop-place.invariant.3 first grown),
      λ first grown slot h. still c.args.numbers.now c.loop-place.slots c.merge_one.new.slots first
          (c.loop-place.invariant.3 first grown) c.merge_one.ensures.grow slot h
          (c.merge_one.ensures.fresh first (c.loop-place.invariant.3 first grown) slot h)
          (c.loop-place.invariant.4 first grown slot),
    )

pub returns-in_err-merge_one-clause-refused : goal.returns-in_err-merge_one-clause-refused
returns-in_err-merge_one-clause-refused c =
    let p = err_from_is_err_and c.from_residual.result c.from_residual.ensures.1 in
    rw (p.1, p.2) (λ bad.
    let is : c.in_err-merge_one.field-0.0 ≡ BadLayout = cc bad in
    let place = c.loop-place.place in
    let all = c.args.cells.now in
    elim (c.in_err-merge_one.ensures.refused (ap (λ fault. Err fault) is)) [
      | inl none ↦
          inl (record {
            cell = get_or all place no_cell;
            among = Contains-get_or all place no_cell c.loop-place-test.true;
            none = none;
          })
      | inr full ↦ inr (λ room.
          full (rooms_next c.args.numbers.now c.args.aggs.now (entries_of c.loop-place.slots)
          (entries_of c.merge_one.new.slots) all place c.loop-place-test.true c.args.columns.now
          c.loop-place.columns c.loop-place.invariant.0 room))
    ])

pub returns-in_err-merge_one-clause-fresh : goal.returns-in_err-merge_one-clause-fresh
returns-in_err-merge_one-clause-fresh c = λ first grown slot h.
    still c.args.numbers.now c.loop-place.slots c.merge_one.new.slots first (c.loop-place.invariant.3 first grown)
    c.merge_one.ensures.grow slot h
    (c.merge_one.ensures.fresh first (c.loop-place.invariant.3 first grown) slot h)
    (c.loop-place.invariant.4 first grown slot)
