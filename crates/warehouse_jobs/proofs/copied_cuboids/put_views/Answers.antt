use Rattle.std.proofs.Common.{sym, ap, Err}
use Rattle.std.proofs.lemmas.Result.{IfErr-weaker, err_from_is_err_and}
use Rattle.warehouse_objects.specs.Warehouse.{with_views}
use Rattle.warehouse_objects.proofs.Folded.{ok_so}
use Rattle.warehouse_jobs.proofs.CopyCauses.{of_commit, or_device}
use Rattle.warehouse_jobs.proofs.CopiedCuboidsLemmas.{commit_leaves, upkeep_leaves}
use Rattle.warehouse_jobs.proofs.copied_cuboids.put_views.Goals as goal

pub returns-in_err-set_views-clause-leaves : goal.returns-in_err-set_views-clause-leaves
returns-in_err-set_views-clause-leaves g c w at =
    commit_leaves w c.args.views.now _ _ (c.in_err-set_views.ensures.leaves w at)

pub returns-in_err-set_views-clause-refused : goal.returns-in_err-set_views-clause-refused
returns-in_err-set_views-clause-refused g c =
    let p = err_from_is_err_and c.from_residual.result c.from_residual.ensures.1 in
    rw (p.1, p.2)
    (λ w at k. or_device c.in_err-set_views.field-0.0
    (λ no. of_commit c.in_err-set_views.field-0.0 (c.in_err-set_views.ensures.causes no w at k)))

pub returns-clause-ok : goal.returns-clause-ok
returns-clause-ok g c =
    ok_so _ _ c.bring_on.result (λ ok w at. ok (with_views w c.args.views.now) (c.in_ok-set_views.ensures.ok w at).0)
    c.bring_on.ensures.ok

pub returns-clause-leaves : goal.returns-clause-leaves
returns-clause-leaves g c w at =
    upkeep_leaves w c.args.views.now _ _ _ (c.in_ok-set_views.ensures.leaves w at)
    (c.bring_on.ensures.leaves (with_views w c.args.views.now) (c.in_ok-set_views.ensures.ok w at).0)

pub returns-clause-refused : goal.returns-clause-refused
returns-clause-refused g c =
    IfErr-weaker c.bring_on.result _ _
    (λ fault why w at k. why (with_views w c.args.views.now) (c.in_ok-set_views.ensures.ok w at).0 k)
    c.bring_on.ensures.refused
