use Rattle.std.proofs.Common.{length, ◌∙◌}
use Rattle.std.proofs.lemmas.Result.{IfErr-weaker, err_from_is_err_and}
use Rattle.warehouse_objects.proofs.Folded.{ok_so}
use Rattle.warehouse.specs.Session.{content_of}
use Rattle.warehouse_jobs.specs.Copied.{with_first}
use Rattle.warehouse_jobs.proofs.CopyCauses.{views_fault}
use Rattle.warehouse_jobs.proofs.CopiedCuboidsLemmas.{is_copy, said_are, views_leave}
use Rattle.warehouse_jobs.proofs.CopiedParts.{leaves_part}
use Rattle.warehouse.proofs.SessionLemmas.{leaves_at}
use Rattle.warehouse_jobs.proofs.copied_cuboids.copy_cuboids.Goals as goal

pub returns-in_err-status-clause-leaves : goal.returns-in_err-status-clause-leaves
returns-in_err-status-clause-leaves g c w to =
    leaves_part w (length w.batches) _ _
    (leaves_at g.E.Sectors g.met.E.Sectors.only_now c.args.to.now (with_first w (length w.batches)) to)

pub returns-in_err-views-clause-leaves : goal.returns-in_err-views-clause-leaves
returns-in_err-views-clause-leaves g c w to =
    leaves_part w (length w.batches) _ _
    (leaves_at g.E.Sectors g.met.E.Sectors.only_now c.args.to.now (with_first w (length w.batches)) to)

pub returns-in_err-views-clause-refused : goal.returns-in_err-views-clause-refused
returns-in_err-views-clause-refused g c =
    let p = err_from_is_err_and c.from_residual-in_err-views.result c.from_residual-in_err-views.ensures.1 in
    rw (p.1, p.2) (λ w from to k word.
    let said = said_are w (content_of g.D.Sectors c.args.from.now) (from.represents k) _ _
    (c.in_ok-status.ensures.ok w from k) in
    views_fault c.in_err-views.field-0.0 w.cuboids _ c.in_err-views.ensures.refused said)

pub returns-clause-leaves : goal.returns-clause-leaves
returns-clause-leaves g c w to =
    views_leave w c.as_slice.result.now _ _ (c.put_views.ensures.leaves (with_first w (length w.batches)) to)

pub returns-clause-ok : goal.returns-clause-ok
returns-clause-ok g c =
    ok_so _ _ c.put_views.result (λ ok w from to k.
    let said = said_are w (content_of g.D.Sectors c.args.from.now) (from.represents k) _ _
    (c.in_ok-status.ensures.ok w from k) in
    let done = ok (with_first w (length w.batches)) to in (
      done.0,
      is_copy w c.as_slice.result.now done.0 done.1
          (c.as_slice.ensures.value ∙ c.in_ok-views.ensures.views w.cuboids said),
      done.2,
      done.3,
    ))
    c.put_views.ensures.ok

pub returns-clause-refused : goal.returns-clause-refused
returns-clause-refused g c =
    IfErr-weaker c.put_views.result _ _ (λ fault why w from to k word. why (with_first w (length w.batches)) to word)
    c.put_views.ensures.refused
