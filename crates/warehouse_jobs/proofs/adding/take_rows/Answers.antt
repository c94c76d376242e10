use Rattle.std.proofs.Common.{◌≤◌, ◌<◌, arith, ap, subst, Err, inl, inr, refl}
use Rattle.std.proofs.lemmas.Result.{err_from_is_err_and}
use Rattle.cube_model.specs.declared.rows.DimRows.{DimRows}
use Rattle.stored_rows.specs.Among.{ContainsRows}
use Rattle.warehouse_jobs.proofs.Additions.{only-looked, refuses-rows, takes-added, takes-skipped}
use Rattle.warehouse_jobs.proofs.Turns.{still}
use Rattle.warehouse_jobs.proofs.adding.take_rows.Goals as goal

pub returns-then-branch-clause-taken : goal.returns-then-branch-clause-taken
returns-then-branch-clause-taken g c w at k =
    let status = c.in_ok-status.ensures.ok w at (c.add.ensures.refused.calls.word k) in
    let ok = c.in_ok-add.ensures.ok w at in
    let new : w.additions < c.args.number = omega (arith, c.if-branch.true, status.additions) in
    takes-added g.D.Sectors w c.args.number c.args.rows.now c.args.session.now c.add.new.self new (ok.1 k) ok.0
    (c.add.ensures.leaves w at)

pub returns-in_err-add-clause-refused : goal.returns-in_err-add-clause-refused
returns-in_err-add-clause-refused g c =
    let p = err_from_is_err_and c.from_residual-in_err-add.result c.from_residual-in_err-add.ensures.1 in
    rw (p.1, p.2) (λ w at k.
    let status = c.in_ok-status.ensures.ok w at (c.add.ensures.refused.calls.word k) in
    let new : w.additions < c.args.number = omega (arith, c.if-branch.true, status.additions) in
    refuses-rows g.D.Sectors w c.args.number c.args.rows.now c.args.session.now c.add.new.self c.in_err-add.field-0.0
    (λ e. (c.in_err-add.ensures.refused.calls.device (ap (λ f. Err f) e)).failed)
    (λ no. (inr (new, c.in_err-add.ensures.causes no w at k), (c.in_err-add.ensures.refused.stays no w at).0))
    (c.add.ensures.leaves w at))

pub returns-then-not-has_rows-clause-refused : goal.returns-then-not-has_rows-clause-refused
returns-then-not-has_rows-clause-refused g c w at k =
    let status = c.in_ok-status.ensures.ok w at k in
    let there : c.args.number ≤ w.additions = omega (arith, c.if-branch.false, status.additions) in
    let session = c.args.session.now in
    refuses-rows g.D.Sectors w c.args.number c.args.rows.now session session _ (λ e. absurd (cc))
    (λ other. (
      inl (
        refl,
        there,
        subst (λ (rows : DimRows). ContainsRows rows c.args.rows.now → ⊥) (c.dims.ensures w at k)
            c.if-not-has_rows.ensures.no,
      ),
      at,
    ))
    (only-looked g.D.Sectors w c.args.number c.args.rows.now session session
    (still g.D.Sectors session w g.met.D.Sectors.only_now at))

pub returns-clause-taken : goal.returns-clause-taken
returns-clause-taken g c w at k =
    let status = c.in_ok-status.ensures.ok w at k in
    let there : c.args.number ≤ w.additions = omega (arith, c.if-branch.false, status.additions) in
    let session = c.args.session.now in
    takes-skipped g.D.Sectors w c.args.number c.args.rows.now session session there
    (subst (λ (rows : DimRows). ContainsRows rows c.args.rows.now) (c.dims.ensures w at k)
    c.if-not-has_rows.ensures.yes) at
    (still g.D.Sectors session w g.met.D.Sectors.only_now at)
