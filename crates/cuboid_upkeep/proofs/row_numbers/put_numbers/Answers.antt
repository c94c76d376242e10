use Rattle.std.proofs.Common.{◌≡◌, subst, arith, ℕ, length}
use Rattle.group_numbers.specs.Rows.{no_row}
use Rattle.cuboid_upkeep.specs.Keys.{AreRowNumbers}
use Rattle.cuboid_upkeep.proofs.Tables.{one_number_more}
use Rattle.cuboid_upkeep.proofs.row_numbers.put_numbers.Goals as goal

pub loop-place-init : goal.loop-place-init
loop-place-init g c = record { many = c.requires.count; each = λ k before inside. absurd (omega (arith, before)) }

pub loop-place-preserved : goal.loop-place-preserved
loop-place-preserved g c =
    one_number_more c.args.dims.now c.args.view c.args.members.now (g.F.FactRows.rows c.args.rows.now)
    c.loop-place.place c.loop-place.numbers c.in-Some.number
    c.loop-place.invariant c.in-Some.ensures.some

pub returns-in_default-clause-lacks : goal.returns-in_default-clause-lacks
returns-in_default-clause-lacks g c is all =
    c.in_default.ensures.none
    (all c.loop-place.place no_row (omega (arith, c.loop-place-test.true, c.loop-place.invariant.many)))

pub returns-clause-ok : goal.returns-clause-ok
returns-clause-ok g c is =
    let rows = g.F.FactRows.rows c.args.rows.now in
    let ends : c.loop-place.place ≡ length rows =
    omega (arith, c.loop-place-test.false, c.loop-place.invariant.many, c.loop-place.auto.place-end) in
    subst (λ (n : ℕ). AreRowNumbers c.args.dims.now c.args.view c.args.members.now rows n c.loop-place.numbers) ends
    c.loop-place.invariant
