use Rattle.std.proofs.Common.{◌≡◌, ◌<◌, ◌∙◌, [], sym, ap, subst, ℕ, length, length-set, slice_index, arith}
use Rattle.std.proofs.lemmas.Result.{err_from_is_err_and}
use Rattle.group_numbers.specs.Rows.{row_at}
use Rattle.cuboid_upkeep.specs.Numbers.{key_place}
use Rattle.cuboid_upkeep.specs.Slots.{IsTaken, PassesAt, TakesAt, taken}
use Rattle.cuboid_upkeep.proofs.Rows.{none_fits}
use Rattle.cuboid_upkeep.proofs.Slots.{own_slot}
use Rattle.cuboid_upkeep.proofs.TableLemmas.{none_taken, number_of_key, one_passes, one_taken}
use Rattle.cuboid_upkeep.proofs.table.take_in_rows.Goals as goal

pub loop-place-init : goal.loop-place-init
loop-place-init g c = none_taken c.args.dims.now c.args.view c.args.members.now (g.F.FactRows.rows c.args.rows.now)
    c.args.slots.now.items c.requires.slots

pub key_for-key-requires-clause-slot : goal.key_for-key-requires-clause-slot
key_for-key-requires-clause-slot g c used =
    let rows = g.F.FactRows.rows c.args.rows.now in
    let within : c.loop-place.place < length rows = omega (arith, c.loop-place-test.true, c.count-place-end.ensures) in
    let fact = c.requires.numbers.each c.loop-place.place within (omega (arith, within, c.requires.numbers.many)) in
    own_slot c.args.view c.args.members.now c.requires.no_modes c.loop-place.slots.items
    (slice_index c.args.numbers.now c.loop-place.place) c.index.result.now c.loop-place.invariant.slots
    (omega (arith, fact.below, c.requires.size, c.loop-place.invariant.size)) c.index.ensures used

pub loop-place-preserved : goal.loop-place-preserved
loop-place-preserved g c =
    let rows = g.F.FactRows.rows c.args.rows.now in
    let members = c.args.members.now in
    let key = c.key_for-key.result in
    let now = c.loop-place.slots.items in
    let next = c.take_in.new.slots.items in
    let cell = c.in_ok-cell.cell in
    let within : c.loop-place.place < length rows = omega (arith, c.loop-place-test.true, c.count-place-end.ensures) in
    let fact = c.requires.numbers.each c.loop-place.place within (omega (arith, within, c.requires.numbers.many)) in
    let is : key_place members key ≡ slice_index c.args.numbers.now c.loop-place.place =
    number_of_key c.args.dims.now c.args.view members (row_at rows c.loop-place.place) key
    (slice_index c.args.numbers.now c.loop-place.place) c.key_for-key.ensures fact in
    let low : key_place members key < length now =
    omega (arith, is, fact.below, c.requires.size, c.loop-place.invariant.size) in
    let takes : TakesAt now (key_place members key) cell next =
    subst (λ (n : ℕ). TakesAt now n cell next) (sym is) c.in_ok-take_in.ensures.ok in
    one_taken c.args.dims.now c.args.view members c.requires.no_modes rows c.loop-place.place within key cell
    c.key_for-key.ensures c.in_ok-cell.ensures.ok
    c.args.slots.now.items now c.loop-place.invariant low next
    (ap length takes.is ∙ length-set now (key_place members key) (taken takes.slot cell)) takes

pub returns-in_err-cell-clause-refused : goal.returns-in_err-cell-clause-refused
returns-in_err-cell-clause-refused g c =
    let p = err_from_is_err_and c.from_residual.result c.from_residual.ensures.1 in
    let rows = g.F.FactRows.rows c.args.rows.now in
    let within : c.loop-place.place < length rows = omega (arith, c.loop-place-test.true, c.count-place-end.ensures) in
    rw (p.1, p.2) (
      c.in_err-cell.ensures.refused.0,
      λ front represent. none_fits c.args.dims.now [] c.args.view rows c.loop-place.place within front
          (c.in_err-cell.ensures.refused.1 c.args.dims.now [] c.args.view),
    )

pub returns-in_err-take_in-clause-refused : goal.returns-in_err-take_in-clause-refused
returns-in_err-take_in-clause-refused g c =
    let p = err_from_is_err_and c.from_residual-in_err-take_in.result c.from_residual-in_err-take_in.ensures.1 in
    let rows = g.F.FactRows.rows c.args.rows.now in
    let members = c.args.members.now in
    let key = c.key_for-key.result in
    let now = c.loop-place.slots.items in
    let cell = c.in_ok-cell.cell in
    let within : c.loop-place.place < length rows = omega (arith, c.loop-place-test.true, c.count-place-end.ensures) in
    let fact = c.requires.numbers.each c.loop-place.place within (omega (arith, within, c.requires.numbers.many)) in
    let is : key_place members key ≡ slice_index c.args.numbers.now c.loop-place.place =
    number_of_key c.args.dims.now c.args.view members (row_at rows c.loop-place.place) key
    (slice_index c.args.numbers.now c.loop-place.place) c.key_for-key.ensures fact in
    let low : key_place members key < length now =
    omega (arith, is, fact.below, c.requires.size, c.loop-place.invariant.size) in
    let past : PassesAt now (key_place members key) cell =
    subst (λ (n : ℕ). PassesAt now n cell) (sym is) c.in_err-take_in.ensures.refused.1 in
    rw (p.1, p.2) (
      c.in_err-take_in.ensures.refused.0,
      λ front represent.
          one_passes c.args.dims.now c.args.view members c.requires.no_modes rows c.loop-place.place within key cell
          c.key_for-key.ensures c.in_ok-cell.ensures.ok
          c.args.slots.now.items now c.loop-place.invariant low past front represent,
    )

pub returns-clause-ok : goal.returns-clause-ok
returns-clause-ok g c =
    let rows = g.F.FactRows.rows c.args.rows.now in
    let ends : c.loop-place.place ≡ length rows =
    omega (arith, c.loop-place-test.false, c.count-place-end.ensures, c.loop-place.auto.place-end) in
    subst (λ (n : ℕ). IsTaken c.args.dims.now c.args.view c.args.members.now rows n c.args.slots.now.items
    c.loop-place.slots.items) ends c.loop-place.invariant
