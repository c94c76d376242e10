use Rattle.std.proofs.lemmas.Result.{IfErr-weaker, err_from_is_err_and}
use Rattle.object_store.proofs.Moments.{leaves_then}
use Rattle.warehouse_objects.proofs.Folded.{ok_so}
use Rattle.warehouse_jobs.specs.Copied.{HoldsPart}
use Rattle.warehouse_jobs.proofs.copying.copy_into.Goals as goal

pub returns-in_err-copy_batches-clause-from_stays : goal.returns-in_err-copy_batches-clause-from_stays
returns-in_err-copy_batches-clause-from_stays g c =
    let p = err_from_is_err_and c.from_residual.result c.from_residual.ensures.1 in
    rw (p.1, p.2) (λ other. c.in_err-copy_batches.ensures.from_stays (λ is. other (cc is)))

pub returns-in_err-copy_batches-clause-refused : goal.returns-in_err-copy_batches-clause-refused
returns-in_err-copy_batches-clause-refused g c =
    let p = err_from_is_err_and c.from_residual.result c.from_residual.ensures.1 in
    rw (p.1, p.2) c.in_err-copy_batches.ensures.refused

pub returns-clause-from_stays : goal.returns-clause-from_stays
returns-clause-from_stays g c other = c.in_ok-copy_batches.ensures.from_stays (λ is. cc)

pub returns-clause-ok : goal.returns-clause-ok
returns-clause-ok g c =
    ok_so _ _ c.copy_cuboids.result
    (λ ok w from to k. ok w (c.in_ok-copy_batches.ensures.from_stays (λ is. cc) w from)
    (c.in_ok-copy_batches.ensures.ok w from to k) k) c.copy_cuboids.ensures.ok

pub returns-clause-leaves : goal.returns-clause-leaves
returns-clause-leaves g c w from to k =
    leaves_then (HoldsPart w) _ _ _ (c.in_ok-copy_batches.ensures.leaves w from to k)
    (c.copy_cuboids.ensures.leaves w (c.in_ok-copy_batches.ensures.ok w from to k))

pub returns-clause-refused : goal.returns-clause-refused
returns-clause-refused g c =
    IfErr-weaker c.copy_cuboids.result _ _ (λ fault why w from to k word.
    why w (c.in_ok-copy_batches.ensures.from_stays (λ is. cc) w from) (c.in_ok-copy_batches.ensures.ok w from to k) k
    word) c.copy_cuboids.ensures.refused
