use Rattle.std.proofs.Common.{rules, ◌≡◌, ◌≤◌, ◌<◌, false, length, arith, ap, Err, IsTrue, inl, inr, refl}
use Rattle.std.proofs.lemmas.Result.{err_from_is_err_and}
use Rattle.warehouse_jobs.proofs.Turns.{only-read, refuses, takes-added, takes-skipped}
use Rattle.warehouse_jobs.proofs.loading.take_in.Goals as goal

pub returns-then-branch-clause-taken : goal.returns-then-branch-clause-taken
returns-then-branch-clause-taken g c w rows at grown k =
    let status = c.in_ok-status.ensures.ok w at (c.submit_batch.ensures.refused.calls.word k) in
    let ok = c.in_ok-submit_batch.ensures.ok w rows at grown in
    let new : length w.batches < c.args.number = omega (arith, c.if-branch.true, status.batches) in
    takes-added g.D.Sectors w c.args.number rows c.args.session.now c.submit_batch.new.self new (ok.1 k) ok.0
    (c.submit_batch.ensures.leaves w rows at grown)

pub returns-in_err-submit_batch-clause-refused : goal.returns-in_err-submit_batch-clause-refused
returns-in_err-submit_batch-clause-refused g c =
    let p = err_from_is_err_and c.from_residual-in_err-submit_batch.result
    c.from_residual-in_err-submit_batch.ensures.1 in
    rw (p.1, p.2) (λ w rows at grown k.
    let status = c.in_ok-status.ensures.ok w at (c.submit_batch.ensures.refused.calls.word k) in
    let new : length w.batches < c.args.number = omega (arith, c.if-branch.true, status.batches) in
    refuses g.D.Sectors w c.args.number rows c.args.session.now c.submit_batch.new.self c.in_err-submit_batch.field-0.0
    (λ e. (c.in_err-submit_batch.ensures.refused.calls.device (ap (λ f. Err f) e)).failed)
    (λ no. (
      inr (inr (new, c.in_err-submit_batch.ensures.causes no w rows at grown k)),
      (c.in_err-submit_batch.ensures.refused.stays no w at).0,
    )) (c.submit_batch.ensures.leaves w rows at grown))

pub returns-in_err-has_batch-clause-refused : goal.returns-in_err-has_batch-clause-refused
returns-in_err-has_batch-clause-refused g c =
    let p = err_from_is_err_and c.from_residual-in_err-has_batch.result c.from_residual-in_err-has_batch.ensures.1 in
    rw (p.1, p.2) (λ w rows at grown k.
    let status = c.in_ok-status.ensures.ok w at (c.has_batch.ensures.reads.calls.word k) in
    let there : c.args.number ≤ length w.batches = omega (arith, c.if-branch.false, status.batches) in
    refuses g.D.Sectors w c.args.number rows c.args.session.now c.has_batch.new.self c.in_err-has_batch.field-0.0
    (λ e. (c.in_err-has_batch.ensures.reads.calls.device (ap (λ f. Err f) e)).failed)
    (λ no. (
      inr (inl (c.in_err-has_batch.ensures.refused no w at, there)),
      c.in_err-has_batch.ensures.reads.stays (λ is. no (cc)) w at,
    ))
    (only-read g.D.Sectors w c.args.number rows c.args.session.now c.has_batch.new.self
    (c.has_batch.ensures.reads.leaves w at)))

pub returns-then-not-branch-clause-refused : goal.returns-then-not-branch-clause-refused
returns-then-not-branch-clause-refused g c w rows at grown k =
    let status = c.in_ok-status.ensures.ok w at (c.has_batch.ensures.reads.calls.word k) in
    let there : c.args.number ≤ length w.batches = omega (arith, c.if-branch.false, status.batches) in
    let no : c.in_ok-has_batch.field-0 ≡ false = search rules in
    refuses g.D.Sectors w c.args.number rows c.args.session.now c.has_batch.new.self _ (λ e. absurd (cc))
    (λ other. (
      inl (
        refl,
        there,
        λ same. let yes = (c.in_ok-has_batch.ensures.answer w rows at grown k).1 same in
            absurd (cc),
      ),
      c.in_ok-has_batch.ensures.reads.stays (λ is. absurd (cc)) w at,
    ))
    (only-read g.D.Sectors w c.args.number rows c.args.session.now c.has_batch.new.self
    (c.has_batch.ensures.reads.leaves w at))

pub returns-clause-taken : goal.returns-clause-taken
returns-clause-taken g c w rows at grown k =
    let status = c.in_ok-status.ensures.ok w at (c.has_batch.ensures.reads.calls.word k) in
    let there : c.args.number ≤ length w.batches = omega (arith, c.if-branch.false, status.batches) in
    let yes : IsTrue c.in_ok-has_batch.field-0 = search rules in
    takes-skipped g.D.Sectors w c.args.number rows c.args.session.now c.has_batch.new.self there
    ((c.in_ok-has_batch.ensures.answer w rows at grown k).0 yes)
    (c.in_ok-has_batch.ensures.reads.stays (λ is. absurd (cc)) w at)
    (c.has_batch.ensures.reads.leaves w at)
