use Rattle.std.proofs.Common.{◌+◌, [], ◌∷◌, length, length-append, inr, sym, ap, subst, arith}
use Rattle.std.proofs.lemmas.Result.{err_from_is_err_and}
use Rattle.warehouse_jobs.proofs.CopiedCuboidsLemmas.{AreFirst, first_all, first_more, never_high}
use Rattle.lattice.proofs.LawsLemmas.{indexes_name_views}
use Rattle.warehouse_jobs.proofs.copied_cuboids.views_in.Goals as goal

pub returns-in_err-view-in-Some-clause-refused : goal.returns-in_err-view-in-Some-clause-refused
returns-in_err-view-in-Some-clause-refused c =
    let p = err_from_is_err_and c.from_residual.result c.from_residual.ensures.1 in
    let high = c.in_err-view-in-Some.ensures.refused in
    rw (p.1, p.2) (inr (
      high.0,
      λ stored are.
          never_high stored c.args.cuboids.now are c.loop-place.place (omega (arith, c.loop-place-test.true))
          c.loop-place.views.items (c.loop-place.invariant.first stored are) c.in-Some.said c.in-Some.is high.1,
    ))

pub returns-in-None-clause-views : goal.returns-in-None-clause-views
returns-in-None-clause-views c stored are =
    first_all stored c.args.cuboids.now are c.loop-place.place (omega (arith, c.loop-place-test.true))
    c.loop-place.views.items (c.loop-place.invariant.first stored are) c.in-None.is

pub loop-place-preserved : goal.loop-place-preserved
loop-place-preserved c =
    let so_far = c.loop-place.invariant in
    let items = c.in_ok-push-in-Some.ensures.items in
    let found = c.in_ok-view-in-Some.ensures.found in
    let view = c.in_ok-view-in-Some.view in record {
      many = omega (arith, ap length items, length-append c.loop-place.views.items (view ∷ []), so_far.many);
      first = λ stored are. subst (AreFirst stored (c.loop-place.place + 1)) (sym items)
          (first_more stored c.args.cuboids.now are c.loop-place.place (omega (arith, c.loop-place-test.true))
          c.loop-place.views.items (so_far.first stored are) c.in-Some.said view c.in-Some.is found
          indexes_name_views);
    }
