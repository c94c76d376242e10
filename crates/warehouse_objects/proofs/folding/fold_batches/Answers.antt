use Rattle.std.proofs.Common.{rules, Err, ◌≡◌, ◌+◌, ◌<◌, ℕ, List, ◌++◌, length, take, get_or, sym, ◌∙◌, ap, subst}
use Rattle.std.proofs.Common.{add-one}
use Rattle.std.proofs.Common.{arith, refl}
use Rattle.std.proofs.lemmas.List.{length-map}
use Rattle.std.proofs.lemmas.Result.{err_from_is_err_and}
use Rattle.cube_model.specs.Admission.{all_rows}
use Rattle.cube_model.specs.declared.fault.Fault.{Fault}
use Rattle.cube_model.specs.declared.fault.Fault.TheVariants.{BadLayout}
use Rattle.cube_model.specs.declared.rows.LineOrder.{LineOrder}
use Rattle.object_store.specs.Content.{Content}
use Rattle.object_store.specs.Store.{IsStill, content_of}
use Rattle.cube_query.specs.Asked.{asked_columns}
use Rattle.cube_query.specs.Groups.{RepresentsRows}
use Rattle.warehouse_objects.specs.Represents.{Represents}
use Rattle.warehouse_objects.proofs.Batches.{get_within, rows_next}
use Rattle.warehouse_objects.proofs.Folded.{count_there, err_fault, own_foldable}
use Rattle.warehouse_objects.proofs.OneMoreRead.{reads_more, same_error, then_reads, reads_nothing}
use Rattle.object_store.proofs.SourceLemmas.{still_here, still_then}
use Rattle.object_store.proofs.CallerLemmas.{leaves_now}
use Rattle.warehouse_objects.proofs.folding.fold_batches.Goals as goal

pub add_batch-requires-clause-over : goal.add_batch-requires-clause-over
add_batch-requires-clause-over g c = c.loop-before.invariant.over

pub add_batch-requires-clause-asked : goal.add_batch-requires-clause-asked
add_batch-requires-clause-asked g c = c.deref.ensures.value ∙ c.in_ok-columns.ensures.ok
    ∙ ap asked_columns (sym c.loop-before.invariant.query)

pub loop-before-preserved : goal.loop-before-preserved
loop-before-preserved g c =
    let first = c.args.store.now in
    let was = c.loop-before.store in
    let now = c.add_batch.new.store in
    let so_far = c.loop-before.invariant in
    let still : IsStill g.D.Sectors c.loop-before.store c.add_batch.new.store =
    c.in_ok-add_batch.ensures.reads.stays (λ is. cc) in
    let next = c.in_ok-add_batch.ensures.ok in
    let before : ℕ = c.loop-before.before in record {
      fine = still.failed ∙ so_far.fine;
      still = still_then g.D.Sectors first was now so_far.still still;
      leaves = reads_more g.D.Sectors first was now so_far.still so_far.leaves c.in_ok-add_batch.ensures.reads.leaves;
      query = c.in_ok-add_batch.ensures.query ∙ so_far.query;
      over = c.in_ok-add_batch.ensures.over;
      own = λ k w represents begun.
          let here = next k w
          (subst (λ (x : Content). Represents x w) (sym (so_far.still.content (still.word k))) represents) in
          let more : all_rows (take (before + 1) w.batches) ≡ all_rows (take before w.batches) ++ here.0 =
          ap (λ (n : ℕ). all_rows (take n w.batches)) (add-one before) ∙ rows_next w.batches before here.0 here.1 in
          subst (λ (l : List LineOrder). RepresentsRows c.args.dims.now c.add_batch.new.fold l) (sym more)
          (here.2.represents (all_rows (take before w.batches)) (so_far.own (still.word k) w represents begun));
    }

pub returns-in_err-add_batch-clause-refused : goal.returns-in_err-add_batch-clause-refused
returns-in_err-add_batch-clause-refused g c =
    let p = err_from_is_err_and c.from_residual-in_err-add_batch.result c.from_residual-in_err-add_batch.ensures.1 in
    rw (p.1, p.2) (λ is k w represents rooted same begun.
    let so_far = c.loop-before.invariant in
    let word = c.in_err-add_batch.ensures.reads.leaves.word k in
    let lengths : length c.args.root.now.batches ≡ length w.batches = ap (λ r. length r.batches) rooted
    ∙ length-map w.batches length in
    let lt : c.loop-before.before < length w.batches =
    omega (arith, c.loop-before-test.true, c.requires.few, lengths) in
    let got = get_within w.batches c.loop-before.before lt in
    let many = ap (λ (l : List ℕ). get_or l c.loop-before.before 0)
    (c.batches-batches.ensures.value ∙ ap (λ r. r.batches) rooted)
    ∙ count_there (content_of g.D.Sectors c.args.store.now) w represents c.loop-before.before got.0 got.1 in
    c.in_err-add_batch.ensures.refused (ap (λ (f : Fault). Err f) (err_fault c.in_err-add_batch.field-0.0 BadLayout is))
    k w (subst (λ (x : Content). Represents x w) (sym (so_far.still.content word)) represents) got.0 got.1 many
    (own_foldable (content_of g.D.Sectors c.args.store.now) w represents c.args.dims.now c.loop-before.before same lt)
    (so_far.own word w represents begun))

pub returns-in_err-add_batch-clause-reads : goal.returns-in_err-add_batch-clause-reads
returns-in_err-add_batch-clause-reads g c =
    let p = err_from_is_err_and c.from_residual-in_err-add_batch.result c.from_residual-in_err-add_batch.ensures.1 in
    rw (p.1, p.2) (same_error g.D.Sectors c.args.store.now c.add_batch.new.store _
    (then_reads g.D.Sectors c.args.store.now c.loop-before.store c.add_batch.new.store c.loop-before.invariant.still _
    c.requires.fine c.loop-before.invariant.leaves c.in_err-add_batch.ensures.reads))

pub returns-clause-ok : goal.returns-clause-ok
returns-clause-ok g c k w represents begun =
    let ends : c.loop-before.before ≡ c.args.as_of =
    omega (arith, c.loop-before-test.false, c.loop-before.auto.before-end) in
    subst (λ (n : ℕ). RepresentsRows c.args.dims.now c.loop-before.fold (all_rows (take n w.batches))) ends
    (c.loop-before.invariant.own k w represents begun)

pub returns-in_err-columns-clause-reads : goal.returns-in_err-columns-clause-reads
returns-in_err-columns-clause-reads g c =
    let p = err_from_is_err_and c.from_residual.result c.from_residual.ensures.1 in
    let memory = c.in_err-columns.ensures.memory in
    rw (p.1, p.2) (reads_nothing g.D.Sectors g.met.D.Sectors.only_now c.args.store.now c.requires.fine _
    (λ is. absurd cc))

pub returns-in_err-buffer-clause-reads : goal.returns-in_err-buffer-clause-reads
returns-in_err-buffer-clause-reads g c =
    reads_nothing g.D.Sectors g.met.D.Sectors.only_now c.args.store.now c.requires.fine _ (λ is. search rules)

pub loop-before-init : goal.loop-before-init
loop-before-init g c = record {
  fine = c.requires.fine;
  still = still_here g.D.Sectors c.args.store.now;
  leaves = leaves_now g.D.Sectors g.met.D.Sectors.only_now c.args.store.now c.requires.fine;
  query = refl;
  over = c.requires.over;
  own = λ k w represents begun. begun;
}
