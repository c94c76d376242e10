use Rattle.std.proofs.Common.{subst}
use Rattle.std.proofs.lemmas.Result.{IfErr-weaker, err_from_is_err_and}
use Rattle.warehouse_objects.proofs.Folded.{ok_so}
use Rattle.warehouse_objects.specs.Warehouse.{Warehouse}
use Rattle.warehouse.specs.Session.{IsAt, content_of}
use Rattle.warehouse_jobs.specs.Copied.{with_first}
use Rattle.warehouse_jobs.proofs.CopyCauses.{memory_or_device}
use Rattle.warehouse_jobs.proofs.CopiedParts.{leaves_part, never_missing, next_first, numbered_here, submit_fault}
use Rattle.warehouse_jobs.proofs.CopiedParts.{submit_leaves}
use Rattle.warehouse.proofs.SessionLemmas.{leaves_at}
use Rattle.warehouse_jobs.proofs.copied_batches.copy_batch.Goals as goal

pub returns-in_err-found-clause-from_stays : goal.returns-in_err-found-clause-from_stays
returns-in_err-found-clause-from_stays g c =
    let p = err_from_is_err_and c.from_residual.result c.from_residual.ensures.1 in
    rw (p.1, p.2) (λ other. c.in_err-found.ensures.reads.stays (λ is. other (cc is)))

pub returns-in_err-found-clause-leaves : goal.returns-in_err-found-clause-leaves
returns-in_err-found-clause-leaves g c w from to k =
    leaves_part w c.args.before _ _
    (leaves_at g.E.Sectors g.met.E.Sectors.only_now c.args.to.now (with_first w c.args.before) to)

pub returns-in_err-found-clause-refused : goal.returns-in_err-found-clause-refused
returns-in_err-found-clause-refused g c =
    let p = err_from_is_err_and c.from_residual.result c.from_residual.ensures.1 in
    rw (p.1, p.2)
    (λ w from lt to k word. memory_or_device c.in_err-found.field-0.0
    (λ no. c.in_err-found.ensures.refused no w from k))

pub returns-in-None-clause-leaves : goal.returns-in-None-clause-leaves
returns-in-None-clause-leaves g c w from to k =
    leaves_part w c.args.before _ _
    (leaves_at g.E.Sectors g.met.E.Sectors.only_now c.args.to.now (with_first w c.args.before) to)

pub returns-in-None-clause-refused : goal.returns-in-None-clause-refused
returns-in-None-clause-refused g c w from lt to k word =
    absurd (never_missing w c.args.before c.in_ok-found.found c.in-None.is (c.in_ok-found.ensures.rows w from k) lt)

pub returns-in-Some-clause-ok : goal.returns-in-Some-clause-ok
returns-in-Some-clause-ok g c =
    ok_so _ _ c.submit.result (λ ok w from to k.
    let here = numbered_here w c.args.before c.in_ok-found.found c.in-Some.rows c.in-Some.is
    (c.in_ok-found.ensures.rows w from k) in
    subst (λ (v : Warehouse). IsAt g.E.Sectors c.submit.new.self v) (next_first w c.args.before c.in-Some.rows here)
    (rw c.as_slice.ensures at ((ok (with_first w c.args.before) to).0))) c.submit.ensures.ok

pub returns-in-Some-clause-leaves : goal.returns-in-Some-clause-leaves
returns-in-Some-clause-leaves g c w from to k =
    let here = numbered_here w c.args.before c.in_ok-found.found c.in-Some.rows c.in-Some.is
    (c.in_ok-found.ensures.rows w from k) in
    submit_leaves w c.args.before c.in-Some.rows here _ _
    (rw c.as_slice.ensures at (c.submit.ensures.leaves (with_first w c.args.before) to))

pub returns-in-Some-clause-refused : goal.returns-in-Some-clause-refused
returns-in-Some-clause-refused g c =
    IfErr-weaker c.submit.result _ _ (λ fault why w from lt to k word.
    let here = numbered_here w c.args.before c.in_ok-found.found c.in-Some.rows c.in-Some.is
    (c.in_ok-found.ensures.rows w from k) in
    submit_fault w c.args.before c.in-Some.rows here g.E.Sectors c.args.to.now (content_of g.D.Sectors c.args.from.now)
    (from.represents (c.rows_of_batch.ensures.reads.calls.word k)) fault
    (λ no. rw c.as_slice.ensures at (why no (with_first w c.args.before) to word))) c.submit.ensures.causes

pub returns-in-Some-clause-from_stays : goal.returns-in-Some-clause-from_stays
returns-in-Some-clause-from_stays g c other w from = c.in_ok-found.ensures.reads.stays (λ is. cc) w from

pub returns-in-None-clause-from_stays : goal.returns-in-None-clause-from_stays
returns-in-None-clause-from_stays g c other w from = c.in_ok-found.ensures.reads.stays (λ is. cc) w from
