use Rattle.std.proofs.Common.{rules, ◌≡◌, ◌+◌, ℕ, List, ◌++◌, length, take, get_or, sym, ◌∙◌, ap, subst, add-one, arith}
use Rattle.std.proofs.lemmas.List.{length-map}
use Rattle.std.proofs.lemmas.Result.{on_ok_weaker, err_from_is_err_and}
use Rattle.cube_model.specs.Admission.{all_rows}
use Rattle.cube_model.specs.declared.rows.LineOrder.{LineOrder}
use Rattle.object_store.specs.Store.{content_of}
use Rattle.cube_query.specs.Groups.{RepresentsRows}
use Rattle.warehouse_objects.proofs.Batches.{get_within, rows_next}
use Rattle.warehouse_objects.proofs.Folded.{count_there}
use Rattle.warehouse_objects.proofs.OneMoreRead.{reads_nothing}
use Rattle.warehouse_objects.proofs.folding.fold_batch.Goals as goal

pub add_batch-requires-clause-asked : goal.add_batch-requires-clause-asked
add_batch-requires-clause-asked g c = c.deref.ensures.value ∙ c.in_ok-columns.ensures.ok

pub returns-then-before-batches-clause-refused : goal.returns-then-before-batches-clause-refused
returns-then-before-batches-clause-refused g c = λ is k w represents rooted lt keys so_far.
    absurd (omega (
      arith,
      c.if-before-batches.true,
      ap length c.batches-batches.ensures.value,
      ap (λ r. length r.batches) rooted,
      length-map w.batches length,
      lt,
    ))

pub returns-clause-ok : goal.returns-clause-ok
returns-clause-ok g c =
    let before : ℕ = c.args.before in
    on_ok_weaker c.add_batch.result (λ counts k w represents begun.
    let here = counts k w represents in
    let more : all_rows (take (before + 1) w.batches) ≡ all_rows (take before w.batches) ++ here.0 =
    ap (λ (n : ℕ). all_rows (take n w.batches)) (add-one before) ∙ rows_next w.batches before here.0 here.1 in
    subst (λ (l : List LineOrder). RepresentsRows c.args.dims.now c.add_batch.new.fold l) (sym more)
    (here.2.represents (all_rows (take before w.batches)) begun)) c.add_batch.ensures.ok

pub returns-clause-refused : goal.returns-clause-refused
returns-clause-refused g c = λ is k w represents rooted lt keys so_far.
    let got = get_within w.batches c.args.before lt in
    let many = ap (λ (l : List ℕ). get_or l c.args.before 0)
    (c.batches-batches.ensures.value ∙ ap (λ r. r.batches) rooted)
    ∙ count_there (content_of g.D.Sectors c.args.store.now) w represents c.args.before got.0 got.1 in
    c.add_batch.ensures.refused is k w represents got.0 got.1 many keys so_far

pub returns-then-before-batches-clause-reads : goal.returns-then-before-batches-clause-reads
returns-then-before-batches-clause-reads g c =
    reads_nothing g.D.Sectors g.met.D.Sectors.only_now c.args.store.now c.requires.fine _ (λ is. absurd cc)

pub returns-in_err-columns-clause-reads : goal.returns-in_err-columns-clause-reads
returns-in_err-columns-clause-reads g c =
    let p = err_from_is_err_and c.from_residual.result c.from_residual.ensures.1 in
    let memory = c.in_err-columns.ensures.memory in
    rw (p.1, p.2) (reads_nothing g.D.Sectors g.met.D.Sectors.only_now c.args.store.now c.requires.fine _
    (λ is. absurd cc))

pub returns-in_err-buffer-clause-reads : goal.returns-in_err-buffer-clause-reads
returns-in_err-buffer-clause-reads g c =
    reads_nothing g.D.Sectors g.met.D.Sectors.only_now c.args.store.now c.requires.fine _ (λ is. search rules)
