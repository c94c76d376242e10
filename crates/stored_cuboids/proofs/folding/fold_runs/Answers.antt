use Rattle.std.proofs.Common.{Err, ◌≡◌, ◌<◌, ◌∙◌, ℕ, ◌-◌, IsTrue, add-one, ap, arith, length, refl, subst, sym, take}
use Rattle.std.proofs.lemmas.Result.{err_from_is_err_and}
use Rattle.cube_model.specs.Admission.{all_rows}
use Rattle.cube_model.specs.declared.fault.Fault.{Fault}
use Rattle.cube_model.specs.declared.fault.Fault.TheVariants.{BadLayout}
use Rattle.cube_query.specs.Groups.{RepresentsRows}
use Rattle.lattice.proofs.Places.{one_view}
use Rattle.object_store.specs.Content.{Content}
use Rattle.object_store.specs.Store.{IsStill, content_of}
use Rattle.warehouse_root.specs.declared.cuboid.StoredCuboid.{StoredCuboid}
use Rattle.warehouse_objects.proofs.Batches.{get_within}
use Rattle.warehouse_objects.proofs.CallerLemmas.{laid_of}
use Rattle.warehouse_objects.proofs.Folded.{err_fault}
use Rattle.object_store.proofs.SourceLemmas.{still_then}
use Rattle.warehouse_objects.proofs.OneMoreRead.{reads_more, same_error, then_reads}
use Rattle.warehouse_objects.specs.Represents.{rows_in}
use Rattle.cuboid_cells.specs.Steps.{cells_of}
use Rattle.stored_cuboids.specs.Counted.{AreCounted, CountsRun}
use Rattle.stored_cuboids.specs.Steps.{IsNextRun}
use Rattle.stored_cuboids.specs.declared.reading.Progress.{Progress}
use Rattle.stored_cuboids.proofs.CountedRuns.{can_count, counted_more, grouping}
use Rattle.stored_cuboids.proofs.StoredRuns.{at_mark, can_read, none_left, none_read}
use Rattle.object_store.proofs.CallerLemmas.{leaves_now}
use Rattle.stored_cuboids.proofs.folding.fold_runs.Goals as goal

pub loop-run-init : goal.loop-run-init
loop-run-init g c = record {
  fine = c.requires.fine;
  still = record {
    word = λ k. k;
    content = λ k. refl;
    room = refl;
    sizes = λ id. refl;
    failed = refl;
    failures = refl;
  };
  leaves = leaves_now g.D.Sectors g.met.D.Sectors.only_now c.args.store.now c.requires.fine;
  over = c.requires.begun.over;
  query = refl;
  own = λ k w stored represents same found said. record {
    read = none_read stored (record { end = 0; left = c.args.cuboid.cells })
        (λ i. record { end = 0; left = ap (λ (s : StoredCuboid). s.cells) (sym said) i });
    represents = c.requires.begun;
  };
}

pub fold_run-requires-clause-serves : goal.fold_run-requires-clause-serves
fold_run-requires-clause-serves g c = rw c.loop-run.invariant.query c.requires.serves

pub loop-run-preserved : goal.loop-run-preserved
loop-run-preserved g c =
    let first = c.args.store.now in
    let was = c.loop-run.store in
    let now = c.fold_run.new.store in
    let so_far = c.loop-run.invariant in
    let content = content_of g.D.Sectors first in
    let dims = c.args.dims.now in
    let modes = c.args.modes.now in
    let still : IsStill g.D.Sectors was now = c.in_ok-at.ensures.reads.stays (λ is. cc) in record {
      fine = still.failed ∙ so_far.fine;
      still = still_then g.D.Sectors first was now so_far.still still;
      leaves = reads_more g.D.Sectors first was now so_far.still so_far.leaves c.in_ok-at.ensures.reads.leaves;
      over = c.in_ok-at.ensures.over;
      query = c.in_ok-at.ensures.query ∙ so_far.query;
      own = λ k w stored represents same found said.
          let r : ℕ = c.loop-run.run in
          let within : r < length stored.runs =
          omega (arith, c.loop-run-test.true, ap (λ (s : StoredCuboid). s.runs) said) in
          let run = get_within stored.runs r within in
          let are = so_far.own (still.word k) w stored represents same found said in
          let counts =
          subst (λ (n : ℕ). CountsRun content n c.args.view c.loop-run.at dims modes c.loop-run.fold
          c.fold_run.new.fold c.in_ok-at.at) c.run_id.ensures
          (subst (λ (x : Content). CountsRun x c.run_id.result c.args.view c.loop-run.at dims modes c.loop-run.fold
          c.fold_run.new.fold c.in_ok-at.at) (so_far.still.content (still.word k)) (c.in_ok-at.ensures.ok k)) in
          let more = counted_more content w c.args.cuboid.view stored represents found r run.0 run.1 dims modes
          same c.loop-run.at are.read c.loop-run.fold are.represents c.args.view c.fold_run.new.fold c.in_ok-at.at
          counts in
          subst (λ (n : ℕ). AreCounted w stored dims n c.fold_run.new.fold c.in_ok-at.at) (sym (add-one r)) more;
    }

pub returns-in_err-at-clause-refused : goal.returns-in_err-at-clause-refused
returns-in_err-at-clause-refused g c =
    let p = err_from_is_err_and c.from_residual.result c.from_residual.ensures.1 in
    rw (p.1, p.2) (λ is k w stored represents same found said.
    let so_far = c.loop-run.invariant in
    let content = content_of g.D.Sectors c.args.store.now in
    let dims = c.args.dims.now in
    let modes = c.args.modes.now in
    let word = c.in_err-at.ensures.reads.leaves.word k in
    let r : ℕ = c.loop-run.run in
    let within : r < length stored.runs = omega (arith, c.loop-run-test.true, ap (λ (s : StoredCuboid). s.runs) said) in
    let run = get_within stored.runs r within in
    let are = so_far.own word w stored represents same found said in
    let view = one_view c.args.view stored.view (c.requires.view ∙ sym (ap (λ (s : StoredCuboid). s.view) said)) in
    let can = can_read content w c.args.cuboid.view stored (laid_of content w represents) found r run.0 run.1
    c.loop-run.at are.read c.args.view view in
    let cells = cells_of stored.view run.0.cells in
    let next : Progress = record { end = run.0.span.to; left = c.loop-run.at.left - length run.0.cells } in
    let goes = subst (λ (x : Content). IsNextRun x c.run_id.result c.args.view c.loop-run.at cells next)
    (sym (so_far.still.content word))
    (subst (λ (n : ℕ). IsNextRun content n c.args.view c.loop-run.at cells next) (sym c.run_id.ensures) can) in
    c.in_err-at.ensures.refused (ap (λ (f : Fault). Err f) (err_fault c.in_err-at.field-0.0 BadLayout is)) k cells next
    (rows_in w.batches run.0.span) goes
    (grouping content w c.args.cuboid.view stored represents found r run.0 run.1 dims modes same c.loop-run.at are.read)
    (can_count content w c.args.cuboid.view stored represents found r run.0 run.1 dims modes same c.loop-run.at are.read
    c.loop-run.fold are.represents))

pub returns-in_err-at-clause-reads : goal.returns-in_err-at-clause-reads
returns-in_err-at-clause-reads g c =
    let p = err_from_is_err_and c.from_residual.result c.from_residual.ensures.1 in
    rw (p.1, p.2) (same_error g.D.Sectors c.args.store.now c.fold_run.new.store _
    (then_reads g.D.Sectors c.args.store.now c.loop-run.store c.fold_run.new.store c.loop-run.invariant.still _
    c.requires.fine c.loop-run.invariant.leaves c.in_err-at.ensures.reads))

pub returns-then-not-is_whole-clause-refused : goal.returns-then-not-is_whole-clause-refused
returns-then-not-is_whole-clause-refused g c = λ is k w stored represents same found said.
    let content = content_of g.D.Sectors c.args.store.now in
    let laid = laid_of content w represents in
    let are = (c.loop-run.invariant.own k w stored represents same found said).read in
    let all : c.loop-run.run ≡ length stored.runs =
    omega (arith, c.loop-run-test.false, c.loop-run.auto.run-end, ap (λ (s : StoredCuboid). s.runs) said) in
    let ends = at_mark content w c.args.cuboid.view stored laid found c.loop-run.at c.loop-run.run all are in
    let none = none_left content w c.args.cuboid.view stored laid found c.loop-run.at c.loop-run.run all are in
    let yes : IsTrue c.is_whole.result = c.is_whole.ensures.1 (ends ∙ ap (λ (s : StoredCuboid). s.mark) said, none) in
    cc c.if-not-is_whole.true

pub returns-clause-ok : goal.returns-clause-ok
returns-clause-ok g c = λ k w stored represents same found said.
    let whole = c.is_whole.ensures.0 c.if-not-is_whole.false in
    subst (λ (n : ℕ). RepresentsRows c.args.dims.now c.loop-run.fold (all_rows (take n w.batches))) whole.0
    (c.loop-run.invariant.own k w stored represents same found said).represents
