use Rattle.std.proofs.Common.{◌≡◌, ◌∙◌, subst, arith, ℕ, length, length-set}
use Rattle.group_numbers.specs.Rows.{no_row}
use Rattle.cuboid_upkeep.specs.Keys.{AreRowKeys}
use Rattle.cuboid_upkeep.proofs.Tables.{one_key_more}
use Rattle.cuboid_upkeep.proofs.keys.put_keys.Goals as goal

pub loop-place-init : goal.loop-place-init
loop-place-init g c = (
  c.requires.count,
  λ modes codes. record { many = c.requires.count; each = λ k d before inside. absurd (omega (arith, before)) },
)

pub loop-place-preserved : goal.loop-place-preserved
loop-place-preserved g c = (
  length-set c.loop-place.keys c.loop-place.place c.in-Some.key ∙ c.loop-place.invariant.0,
  λ modes codes.
      one_key_more c.args.dims.now modes c.args.view c.args.members.now (g.F.FactRows.rows c.args.rows.now)
      c.loop-place.place c.loop-place.keys c.in-Some.key
      (c.loop-place.invariant.1 modes codes) (c.in-Some.ensures.some modes codes),
)

pub returns-in_default-clause-lacks : goal.returns-in_default-clause-lacks
returns-in_default-clause-lacks g c is modes codes all =
    c.in_default.ensures.none modes codes
    (all c.loop-place.place no_row (omega (arith, c.loop-place-test.true, c.loop-place.invariant.0)))

pub returns-clause-ok : goal.returns-clause-ok
returns-clause-ok g c is modes codes =
    let rows = g.F.FactRows.rows c.args.rows.now in
    let ends : c.loop-place.place ≡ length rows =
    omega (arith, c.loop-place-test.false, c.loop-place.invariant.0, c.loop-place.auto.place-end) in
    subst (λ (n : ℕ). AreRowKeys c.args.dims.now modes c.args.view c.args.members.now rows n c.loop-place.keys) ends
    (c.loop-place.invariant.1 modes codes)
