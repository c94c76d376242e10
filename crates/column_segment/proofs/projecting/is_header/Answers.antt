use Rattle.std.proofs.Common.{◌≡◌, ℕ, subst, arith}
use Rattle.std.proofs.lemmas.Bool.Decides.{nat_tests}
use Rattle.column_segment.specs.Reading.{HasHeader}
use Rattle.column_segment.proofs.Shared.{same_header}
use Rattle.column_segment.proofs.projecting.is_header.Goals as goal

pub returns-then-header-number : goal.returns-then-header-number
returns-then-header-number c = (
  λ same.
      let rows : c.in-Ok.header.rows ≡ c.args.rows = grind (arith, nat_tests, same) in
      subst (λ (n : ℕ). HasHeader c.args.bytes.now c.args.number n) rows
      (subst (λ (n : ℕ). HasHeader c.args.bytes.now n c.in-Ok.header.rows) c.if-header-number.true
      c.in-Ok.ensures.ok),
  λ has. let rows = (same_header _ _ _ _ _ c.in-Ok.ensures.ok has).1 in grind (arith, nat_tests, rows),
)

pub returns-else-header-number : goal.returns-else-header-number
returns-else-header-number c = (
  λ same. let number : c.in-Ok.header.number ≡ c.args.number = grind (arith, nat_tests, same) in
      absurd (c.if-header-number.false number),
  λ has. absurd (c.if-header-number.false (same_header _ _ _ _ _ c.in-Ok.ensures.ok has).0),
)
