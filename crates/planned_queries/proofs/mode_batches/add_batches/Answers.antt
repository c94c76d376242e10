use Rattle.std.proofs.Common.{Err, ◌≡◌, ◌<◌, ℕ, List, length, get_or, take, sym, ◌∙◌, ap, subst, arith, refl}
use Rattle.std.specs.Option.{IfSome}
use Rattle.std.proofs.lemmas.List.{length-map}
use Rattle.std.proofs.lemmas.Result.{err_from_is_err_and}
use Rattle.cube_model.specs.Admission.{all_rows}
use Rattle.cube_model.specs.declared.fault.Fault.{Fault}
use Rattle.cube_model.specs.declared.fault.Fault.TheVariants.{BadLayout}
use Rattle.cube_model.specs.declared.query.Query.{Query}
use Rattle.mode_folds.specs.States.{RepresentsModeRows}
use Rattle.mode_queries.specs.declared.query.ModeQuery.{ModeQuery}
use Rattle.object_store.specs.Content.{Content}
use Rattle.object_store.specs.Store.{IsStill, content_of}
use Rattle.warehouse_objects.specs.Represents.{Represents}
use Rattle.warehouse_objects.proofs.Batches.{get_within}
use Rattle.warehouse_objects.proofs.Folded.{count_there, err_fault, own_foldable}
use Rattle.warehouse_objects.proofs.OneMoreRead.{reads_more, same_error, then_reads}
use Rattle.planned_queries.specs.ModesCounted.{ServesWithModes}
use Rattle.planned_queries.proofs.Folding.{can_take_next, folds_next}
use Rattle.object_store.proofs.SourceLemmas.{still_here, still_then}
use Rattle.object_store.proofs.CallerLemmas.{leaves_now}
use Rattle.planned_queries.proofs.mode_batches.add_batches.Goals as goal

pub add_batch-requires-clause-over : goal.add_batch-requires-clause-over
add_batch-requires-clause-over g c = c.loop-before.invariant.over

pub add_batch-requires-clause-serves : goal.add_batch-requires-clause-serves
add_batch-requires-clause-serves g c =
    subst (λ (q : Query). IfSome c.moded_view-view.result (ServesWithModes q))
    (c.requires.query ∙ ap (λ (asked : ModeQuery). asked.query) (sym c.loop-before.invariant.query))
    c.moded_view-view.ensures

pub loop-before-preserved : goal.loop-before-preserved
loop-before-preserved g c =
    let first = c.args.store.now in
    let was = c.loop-before.store in
    let now = c.add_batch.new.store in
    let so_far = c.loop-before.invariant in
    let still : IsStill g.D.Sectors was now = c.in_ok-add_batch.ensures.reads.stays (λ is. cc) in
    let before : ℕ = c.loop-before.before in record {
      fine = still.failed ∙ so_far.fine;
      still = still_then g.D.Sectors first was now so_far.still still;
      leaves = reads_more g.D.Sectors first was now so_far.still so_far.leaves c.in_ok-add_batch.ensures.reads.leaves;
      query = c.in_ok-add_batch.ensures.query ∙ so_far.query;
      over = c.in_ok-add_batch.ensures.over;
      own = λ k w represents begun.
          let here = c.in_ok-add_batch.ensures.ok k w
          (subst (λ (x : Content). Represents x w) (sym (so_far.still.content (still.word k))) represents) in
          folds_next w before here.0 here.1 c.args.dims.now c.loop-before.fold
          (so_far.own (still.word k) w represents begun) c.add_batch.new.fold here.2;
    }

pub returns-in_err-add_batch-clause-refused : goal.returns-in_err-add_batch-clause-refused
returns-in_err-add_batch-clause-refused g c =
    let p = err_from_is_err_and c.from_residual.result c.from_residual.ensures.1 in
    rw (p.1, p.2) (λ is k w represents rooted same begun.
    let so_far = c.loop-before.invariant in
    let before : ℕ = c.loop-before.before in
    let content = content_of g.D.Sectors c.args.store.now in
    let word = c.in_err-add_batch.ensures.reads.leaves.word k in
    let lengths : length c.args.root.now.batches ≡ length w.batches = ap (λ r. length r.batches) rooted
    ∙ length-map w.batches length in
    let lt : before < length w.batches = omega (arith, c.loop-before-test.true, c.requires.few, lengths) in
    let got = get_within w.batches before lt in
    let many = ap (λ (l : List ℕ). get_or l before 0) (c.batches-batches.ensures.value ∙ ap (λ r. r.batches) rooted)
    ∙ count_there content w represents before got.0 got.1 in
    c.in_err-add_batch.ensures.refused (ap (λ (f : Fault). Err f) (err_fault c.in_err-add_batch.field-0.0 BadLayout is))
    k w (subst (λ (x : Content). Represents x w) (sym (so_far.still.content word)) represents) got.0 got.1 many
    (can_take_next w before got.0 got.1 c.args.dims.now c.loop-before.fold (so_far.own word w represents begun)
    (own_foldable content w represents c.args.dims.now before same lt)))

pub returns-in_err-add_batch-clause-reads : goal.returns-in_err-add_batch-clause-reads
returns-in_err-add_batch-clause-reads g c =
    let p = err_from_is_err_and c.from_residual.result c.from_residual.ensures.1 in
    rw (p.1, p.2) (same_error g.D.Sectors c.args.store.now c.add_batch.new.store c.in_err-add_batch.field-0.0
    (then_reads g.D.Sectors c.args.store.now c.loop-before.store c.add_batch.new.store c.loop-before.invariant.still
    (Err c.in_err-add_batch.field-0.0)
    c.requires.fine c.loop-before.invariant.leaves c.in_err-add_batch.ensures.reads))

pub returns-clause-ok : goal.returns-clause-ok
returns-clause-ok g c k w represents begun =
    let ends : c.loop-before.before ≡ c.args.as_of =
    omega (arith, c.loop-before-test.false, c.loop-before.auto.before-end) in
    subst (λ (n : ℕ). RepresentsModeRows c.args.dims.now c.loop-before.fold (all_rows (take n w.batches))) ends
    (c.loop-before.invariant.own k w represents begun)

pub loop-before-init : goal.loop-before-init
loop-before-init g c = record {
  fine = c.requires.fine;
  still = still_here g.D.Sectors c.args.store.now;
  leaves = leaves_now g.D.Sectors g.met.D.Sectors.only_now c.args.store.now c.requires.fine;
  query = refl;
  over = c.requires.over;
  own = λ k w represents begun. begun;
}
