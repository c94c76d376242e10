use Rattle.std.proofs.Common.{◌<◌, length, arith}
use Rattle.std.proofs.lemmas.Result.{err_from_is_err_and}
use Rattle.object_store.specs.Content.{Content}
use Rattle.object_store.proofs.Moments.{leaves_then}
use Rattle.warehouse_objects.specs.Represents.{Represents}
use Rattle.warehouse_jobs.proofs.DumpingLemmas.{all_written, nothing_written, refused_next, written_next}
use Rattle.warehouse.proofs.SessionLemmas.{leaves_at}
use Rattle.warehouse_jobs.proofs.dumping.write_batches.Goals as goal

pub loop-before-init : goal.loop-before-init
loop-before-init g c = record {
  word = λ k. k;
  at = λ w at. at;
  leaves = λ w at. leaves_at g.D.Sectors g.met.D.Sectors.only_now c.args.session.now w at;
  written = λ w at k. nothing_written (g.W.Write.contents c.args.out.now);
}

pub loop-before-preserved : goal.loop-before-preserved
loop-before-preserved g c =
    let so_far = c.loop-before.invariant in
    let next = c.in_ok-write_batch.ensures in record {
      word = λ k. so_far.word (next.reads.calls.word k);
      at = λ w at. next.reads.stays (λ is. cc) w (so_far.at w at);
      leaves = λ w at. leaves_then (λ (x : Content). Represents x w) _ _ _ (so_far.leaves w at)
          (next.reads.leaves w (so_far.at w at));
      written = λ w at k. written_next w.batches c.loop-before.before _ _ _
          (so_far.written w at (next.reads.calls.word k))
          (next.ok w (so_far.at w at) k);
    }

pub returns-in_err-write_batch-clause-leaves : goal.returns-in_err-write_batch-clause-leaves
returns-in_err-write_batch-clause-leaves g c w at =
    let so_far = c.loop-before.invariant in
    leaves_then (λ (x : Content). Represents x w) _ _ _ (so_far.leaves w at)
    (c.in_err-write_batch.ensures.reads.leaves w (so_far.at w at))

pub returns-in_err-write_batch-clause-stays : goal.returns-in_err-write_batch-clause-stays
returns-in_err-write_batch-clause-stays g c =
    let p = err_from_is_err_and c.from_residual-in_err-write_batch.result
    c.from_residual-in_err-write_batch.ensures.1 in
    rw (p.1, p.2)
    (λ other w at. c.in_err-write_batch.ensures.reads.stays (λ is. other (cc is)) w (c.loop-before.invariant.at w at))

pub returns-in_err-write_batch-clause-refused : goal.returns-in_err-write_batch-clause-refused
returns-in_err-write_batch-clause-refused g c =
    let p = err_from_is_err_and c.from_residual-in_err-write_batch.result
    c.from_residual-in_err-write_batch.ensures.1 in
    rw (p.1, p.2) (λ w at k.
    let so_far = c.loop-before.invariant in
    let next = c.in_err-write_batch.ensures in
    let many = (c.in_ok-status.ensures.ok w at (so_far.word (next.reads.calls.word k))).batches in
    let lt : c.loop-before.before < length w.batches = omega (arith, c.loop-before-test.true, many) in
    refused_next w.batches c.loop-before.before _ _ _ (so_far.written w at (next.reads.calls.word k)) lt _
    (next.refused w (so_far.at w at) k))

pub returns-clause-ok : goal.returns-clause-ok
returns-clause-ok g c w at k =
    let so_far = c.loop-before.invariant in
    let many = (c.in_ok-status.ensures.ok w at (so_far.word k)).batches in
    all_written w.batches c.loop-before.before (omega (arith, c.loop-before-test.false, many)) _ _
    (so_far.written w at k)

pub returns-in_err-write_batch-clause-failed : goal.returns-in_err-write_batch-clause-failed
returns-in_err-write_batch-clause-failed g c failed = let no = c.in_ok-status.ensures.failed.1 failed in absurd cc

pub returns-clause-failed : goal.returns-clause-failed
returns-clause-failed g c failed = let no = c.in_ok-status.ensures.failed.1 failed in absurd cc

pub returns-in_err-write_batch-clause-device : goal.returns-in_err-write_batch-clause-device
returns-in_err-write_batch-clause-device g c =
    let p = err_from_is_err_and c.from_residual-in_err-write_batch.result
    c.from_residual-in_err-write_batch.ensures.1 in
    rw (p.1, p.2) (λ is. (c.in_err-write_batch.ensures.reads.calls.device (cc is)).failed)
