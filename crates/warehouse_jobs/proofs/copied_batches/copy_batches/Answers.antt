use Rattle.std.proofs.Common.{◌<◌, length, subst, arith}
use Rattle.std.proofs.lemmas.Result.{err_from_is_err_and}
use Rattle.object_store.specs.Content.{Content}
use Rattle.object_store.proofs.Moments.{leaves_then}
use Rattle.warehouse_objects.specs.Represents.{Represents}
use Rattle.warehouse_objects.specs.Warehouse.{Warehouse}
use Rattle.warehouse.specs.Session.{IsAt}
use Rattle.warehouse_jobs.specs.Copied.{HoldsPart, with_first}
use Rattle.warehouse_jobs.proofs.CopiedParts.{all_first, leaves_part}
use Rattle.warehouse.proofs.SessionLemmas.{leaves_at}
use Rattle.warehouse_jobs.proofs.copied_batches.copy_batches.Goals as goal

pub loop-before-init : goal.loop-before-init
loop-before-init g c = record {
  from_word = λ k. k;
  word = λ k. k;
  from_at = λ w from. from;
  from_leaves = λ w from. leaves_at g.D.Sectors g.met.D.Sectors.only_now c.args.from.now w from;
  at = λ w from to k. to;
  leaves = λ w from to k. leaves_part w 0 _ _
      (leaves_at g.E.Sectors g.met.E.Sectors.only_now c.args.to.now (with_first w 0) to);
}

pub loop-before-preserved : goal.loop-before-preserved
loop-before-preserved g c =
    let so_far = c.loop-before.invariant in
    let next = c.in_ok-copy_batch.ensures in record {
      from_word = λ k. so_far.from_word (next.from_word k);
      word = λ k. so_far.word (next.word k);
      from_at = λ w from. next.from_stays (λ is. cc) w (so_far.from_at w from);
      from_leaves = λ w from. leaves_then (λ (x : Content). Represents x w) _ _ _ (so_far.from_leaves w from)
          (next.from_leaves w (so_far.from_at w from));
      at = λ w from to k. next.ok w (so_far.from_at w from) (so_far.at w from to (next.from_word k)) k;
      leaves = λ w from to k. leaves_then (HoldsPart w) _ _ _ (so_far.leaves w from to (next.from_word k))
          (next.leaves w (so_far.from_at w from) (so_far.at w from to (next.from_word k)) k);
    }

pub returns-in_err-copy_batch-clause-from_leaves : goal.returns-in_err-copy_batch-clause-from_leaves
returns-in_err-copy_batch-clause-from_leaves g c w from =
    let so_far = c.loop-before.invariant in
    leaves_then (λ (x : Content). Represents x w) _ _ _ (so_far.from_leaves w from)
    (c.in_err-copy_batch.ensures.from_leaves w (so_far.from_at w from))

pub returns-in_err-copy_batch-clause-from_stays : goal.returns-in_err-copy_batch-clause-from_stays
returns-in_err-copy_batch-clause-from_stays g c =
    let p = err_from_is_err_and c.from_residual-in_err-copy_batch.result c.from_residual-in_err-copy_batch.ensures.1 in
    rw (p.1, p.2)
    (λ other w from. c.in_err-copy_batch.ensures.from_stays (λ is. other (cc is)) w
    (c.loop-before.invariant.from_at w from))

pub returns-in_err-copy_batch-clause-leaves : goal.returns-in_err-copy_batch-clause-leaves
returns-in_err-copy_batch-clause-leaves g c w from to k =
    let so_far = c.loop-before.invariant in
    let next = c.in_err-copy_batch.ensures in
    leaves_then (HoldsPart w) _ _ _ (so_far.leaves w from to (next.from_word k))
    (next.leaves w (so_far.from_at w from) (so_far.at w from to (next.from_word k)) k)

pub returns-in_err-copy_batch-clause-refused : goal.returns-in_err-copy_batch-clause-refused
returns-in_err-copy_batch-clause-refused g c =
    let p = err_from_is_err_and c.from_residual-in_err-copy_batch.result c.from_residual-in_err-copy_batch.ensures.1 in
    rw (p.1, p.2) (λ w from to k word.
    let so_far = c.loop-before.invariant in
    let next = c.in_err-copy_batch.ensures in
    let many = (c.in_ok-status.ensures.ok w from (so_far.from_word (next.from_word k))).batches in
    let lt : c.loop-before.before < length w.batches = omega (arith, c.loop-before-test.true, many) in
    next.refused w (so_far.from_at w from) lt (so_far.at w from to (next.from_word k)) k word)

pub returns-clause-ok : goal.returns-clause-ok
returns-clause-ok g c w from to k =
    let so_far = c.loop-before.invariant in
    let many = (c.in_ok-status.ensures.ok w from (so_far.from_word k)).batches in
    subst (λ (v : Warehouse). IsAt g.E.Sectors c.loop-before.to v)
    (all_first w c.loop-before.before
    (omega (arith, c.loop-before-test.false, c.loop-before.auto.before-end, many))) (so_far.at w from to k)
