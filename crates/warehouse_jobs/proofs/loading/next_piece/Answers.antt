use Rattle.std.proofs.Common.{◌≤◌, ◌+◌, length, arith, subst, sym}
use Rattle.std.specs.Prelude.{IfSome}
use Rattle.ssb_eval.specs.Tables.{IsInNoRow}
use Rattle.warehouse_jobs.proofs.loading.next_piece.Goals as goal

pub add_rows-requires : goal.add_rows-requires
add_rows-requires g c =
    let before = c.requires.few in
    let few : length before.0 + length c.in_ok-rows.rows ≤ 65536 =
    omega (arith, before.2, c.in_ok-rows.ensures.taken.few) in
    record { few = (before.0, before.1, rw (sym c.as_slice.ensures) at few) }

pub returns-clause-grown : goal.returns-clause-grown
returns-clause-grown g c before grown = rw c.as_slice.ensures at (c.in_ok-add_rows.ensures.ok before grown)

pub returns-clause-unknown : goal.returns-clause-unknown
returns-clause-unknown g c w at k =
    subst (λ dimensions. IfSome c.args.unknown.now (IsInNoRow dimensions)
    → IfSome c.keep_unknown.new.unknown (IsInNoRow dimensions)) (c.dims.ensures w at k) c.keep_unknown.ensures
