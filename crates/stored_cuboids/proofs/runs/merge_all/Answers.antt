use Rattle.std.proofs.Common.{Err, ◌≡◌, ◌<◌, ◌∙◌, ℕ, IsTrue, add-one, ap, arith, length, refl, subst, sym}
use Rattle.std.proofs.lemmas.Result.{err_from_is_err_and}
use Rattle.cube_model.specs.declared.fault.Fault.{Fault}
use Rattle.cube_model.specs.declared.fault.Fault.TheVariants.{BadLayout}
use Rattle.object_store.specs.Content.{Content}
use Rattle.object_store.specs.Store.{IsStill, content_of}
use Rattle.cuboid_cells.specs.Cells.{PlainCells}
use Rattle.warehouse_root.specs.declared.cuboid.StoredCuboid.{StoredCuboid}
use Rattle.warehouse_objects.proofs.Batches.{get_within}
use Rattle.warehouse_objects.proofs.Folded.{err_fault}
use Rattle.object_store.proofs.SourceLemmas.{still_then}
use Rattle.warehouse_objects.proofs.OneMoreRead.{reads_more, same_error, then_reads}
use Rattle.stored_cuboids.specs.Steps.{RunsAreMerged, MergesRun}
use Rattle.stored_cuboids.proofs.StoredRuns.{at_mark, can_merge, has_merge, merged_with, none_left, none_merged}
use Rattle.object_store.proofs.CallerLemmas.{leaves_now}
use Rattle.stored_cuboids.proofs.runs.merge_all.Goals as goal

pub loop-run-init : goal.loop-run-init
loop-run-init g c = record {
  fine = c.requires.fine;
  still = record {
    word = λ k. k;
    content = λ k. refl;
    room = refl;
    sizes = λ id. refl;
    failed = refl;
    failures = refl;
  };
  leaves = leaves_now g.D.Sectors g.met.D.Sectors.only_now c.args.store.now c.requires.fine;
  view = ap (λ (p : PlainCells). p.view) c.empty-cells.ensures;
  own = λ k w stored laid found said.
      none_merged stored c.args.view c.empty-cells.result (record { end = 0; left = c.args.cuboid.cells })
      (c.requires.view ∙ sym (ap (λ (s : StoredCuboid). s.view) said)) c.empty-cells.ensures
      (λ i. record { end = 0; left = ap (λ (s : StoredCuboid). s.cells) (sym said) i });
}

pub loop-run-preserved : goal.loop-run-preserved
loop-run-preserved g c =
    let first = c.args.store.now in
    let was = c.loop-run.store in
    let now = c.merge_run.new.store in
    let so_far = c.loop-run.invariant in
    let content = content_of g.D.Sectors first in
    let still : IsStill g.D.Sectors was now = c.in_ok-at.ensures.reads.stays (λ is. cc) in record {
      fine = still.failed ∙ so_far.fine;
      still = still_then g.D.Sectors first was now so_far.still still;
      leaves = reads_more g.D.Sectors first was now so_far.still so_far.leaves c.in_ok-at.ensures.reads.leaves;
      view = c.in_ok-at.ensures.view ∙ so_far.view;
      own = λ k w stored laid found said.
          let r : ℕ = c.loop-run.run in
          let within : r < length stored.runs =
          omega (arith, c.loop-run-test.true, ap (λ (s : StoredCuboid). s.runs) said) in
          let run = get_within stored.runs r within in
          let takes =
          subst (λ (n : ℕ). MergesRun content n c.loop-run.cells c.loop-run.at c.merge_run.new.cells c.in_ok-at.at)
          c.run_id.ensures
          (subst (λ (x : Content). MergesRun x c.run_id.result c.loop-run.cells c.loop-run.at c.merge_run.new.cells
          c.in_ok-at.at) (so_far.still.content (still.word k)) (c.in_ok-at.ensures.ok k)) in
          let more = merged_with content w c.args.cuboid.view stored laid found r run.0 run.1 c.loop-run.cells
          c.loop-run.at (so_far.own (still.word k) w stored laid found said) c.merge_run.new.cells c.in_ok-at.at
          takes in
          subst (λ (n : ℕ). RunsAreMerged stored n c.merge_run.new.cells c.in_ok-at.at) (sym (add-one r)) more;
    }

pub returns-in_err-at-clause-unsound : goal.returns-in_err-at-clause-unsound
returns-in_err-at-clause-unsound g c =
    let p = err_from_is_err_and c.from_residual.result c.from_residual.ensures.1 in
    rw (p.1, p.2) (λ is k w stored laid found said sound.
    let so_far = c.loop-run.invariant in
    let content = content_of g.D.Sectors c.args.store.now in
    let word = c.in_err-at.ensures.reads.leaves.word k in
    let r : ℕ = c.loop-run.run in
    let within : r < length stored.runs = omega (arith, c.loop-run-test.true, ap (λ (s : StoredCuboid). s.runs) said) in
    let run = get_within stored.runs r within in
    let can = can_merge content w c.args.cuboid.view stored laid found r run.0 run.1 c.loop-run.cells c.loop-run.at
    (so_far.own word w stored laid found said) sound.cells sound.merge in
    let takes = subst (λ (x : Content). MergesRun x c.run_id.result c.loop-run.cells c.loop-run.at can.0 can.1)
    (sym (so_far.still.content word))
    (subst (λ (n : ℕ). MergesRun content n c.loop-run.cells c.loop-run.at can.0 can.1) (sym c.run_id.ensures) can.2) in
    c.in_err-at.ensures.refused (ap (λ (f : Fault). Err f) (err_fault c.in_err-at.field-0.0 BadLayout is)) k can.0 can.1
    takes)

pub returns-in_err-at-clause-reads : goal.returns-in_err-at-clause-reads
returns-in_err-at-clause-reads g c =
    let p = err_from_is_err_and c.from_residual.result c.from_residual.ensures.1 in
    rw (p.1, p.2) (same_error g.D.Sectors c.args.store.now c.merge_run.new.store _
    (then_reads g.D.Sectors c.args.store.now c.loop-run.store c.merge_run.new.store c.loop-run.invariant.still _
    c.requires.fine c.loop-run.invariant.leaves c.in_err-at.ensures.reads))

pub returns-then-not-is_whole-clause-unsound : goal.returns-then-not-is_whole-clause-unsound
returns-then-not-is_whole-clause-unsound g c = λ is k w stored laid found said sound.
    let content = content_of g.D.Sectors c.args.store.now in
    let are = (c.loop-run.invariant.own k w stored laid found said).read in
    let all : c.loop-run.run ≡ length stored.runs =
    omega (arith, c.loop-run-test.false, c.loop-run.auto.run-end, ap (λ (s : StoredCuboid). s.runs) said) in
    let ends = at_mark content w c.args.cuboid.view stored laid found c.loop-run.at c.loop-run.run all are in
    let none = none_left content w c.args.cuboid.view stored laid found c.loop-run.at c.loop-run.run all are in
    let yes : IsTrue c.is_whole.result = c.is_whole.ensures.1 (ends ∙ ap (λ (s : StoredCuboid). s.mark) said, none) in
    cc c.if-not-is_whole.true

pub returns-clause-ok : goal.returns-clause-ok
returns-clause-ok g c = λ k w stored laid found said.
    let content = content_of g.D.Sectors c.args.store.now in
    let all : c.loop-run.run ≡ length stored.runs =
    omega (arith, c.loop-run-test.false, c.loop-run.auto.run-end, ap (λ (s : StoredCuboid). s.runs) said) in
    has_merge content w c.args.cuboid.view stored laid found c.loop-run.cells c.loop-run.at c.loop-run.run all
    (c.loop-run.invariant.own k w stored laid found said)
