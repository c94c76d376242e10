use Rattle.std.proofs.Common.{rules, ◌≡◌, ⊎_elim, inl, inr, Err, ℕ, length, List, refl, sym, ◌∙◌, ap, subst, arith}
use Rattle.std.proofs.lemmas.List.{length-map}
use Rattle.std.proofs.lemmas.Result.{err_from_is_err_and}
use Rattle.cube_model.specs.declared.fault.Fault.{Fault}
use Rattle.cube_model.specs.declared.fault.Fault.TheVariants.{Device, Failed}
use Rattle.object_store.specs.Content.{Content}
use Rattle.object_store.specs.Store.{IsStill, content_of}
use Rattle.warehouse_root.specs.Root.{PlainRoot}
use Rattle.warehouse_objects.specs.Represents.{Represents}
use Rattle.warehouse_objects.proofs.Folded.{err_fault}
use Rattle.object_store.proofs.SourceLemmas.{still_then}
use Rattle.warehouse_objects.proofs.OneMoreRead.{has_read, reads_more, same_error, then_reads}
use Rattle.stored_rows.specs.Gathered.{IsGathered}
use Rattle.stored_rows.proofs.OneBatchMore.{all_gathered, all_refused}
use Rattle.stored_rows.proofs.Rows.{never_said, only_memory, said_modes}
use Rattle.object_store.proofs.CallerLemmas.{leaves_now}
use Rattle.stored_rows.proofs.ship_modes.read_ship_modes.Goals as goal

pub loop-before-init : goal.loop-before-init
loop-before-init g c = record {
  fine = c.requires.fine;
  still = search rules;
  leaves = leaves_now g.D.Sectors g.met.D.Sectors.only_now c.args.store.now c.requires.fine;
  own = λ k w represents rooted. c.none-gathered.ensures w.batches;
}

pub returns-in_err-column-clause-refused : goal.returns-in_err-column-clause-refused
returns-in_err-column-clause-refused g c =
    let p = err_from_is_err_and c.from_residual.result c.from_residual.ensures.1 in
    rw (p.1, p.2) (λ other k w represents rooted.
    let fault : Fault = c.in_err-column.field-0.0 in
    let so_far = c.loop-before.invariant in
    let word = c.in_err-column.ensures.reads.leaves.word k in
    inl (only_memory fault c.in_err-column.ensures.causes other (λ bad.
    never_said (content_of g.D.Sectors c.loop-before.store) w
    (subst (λ (x : Content). Represents x w) (sym (so_far.still.content word)) represents) c.args.root.now rooted
    c.batches-counts.ensures.proper c.loop-before.before
    (omega (arith, c.loop-before-test.true, ap (λ (l : List ℕ). length l) c.batches-counts.ensures.value))
    c.batches-counts.result.now c.batches-counts.ensures.value
    (c.in_err-column.ensures.refused (ap (λ (f : Fault). Err f) bad) k))))

pub returns-in_err-column-clause-reads : goal.returns-in_err-column-clause-reads
returns-in_err-column-clause-reads g c =
    let p = err_from_is_err_and c.from_residual.result c.from_residual.ensures.1 in
    rw (p.1, p.2) (same_error g.D.Sectors c.args.store.now c.read_mode_column.new.store _
    (then_reads g.D.Sectors c.args.store.now c.loop-before.store c.read_mode_column.new.store
    c.loop-before.invariant.still _ c.requires.fine c.loop-before.invariant.leaves c.in_err-column.ensures.reads))

pub returns-in_err-add-clause-refused : goal.returns-in_err-add-clause-refused
returns-in_err-add-clause-refused g c =
    let p = err_from_is_err_and c.from_residual-in_err-add.result c.from_residual-in_err-add.ensures.1 in
    rw (p.1, p.2) (λ other k w represents rooted.
    let so_far = c.loop-before.invariant in
    let word = c.in_ok-column.ensures.reads.leaves.word k in
    let there = said_modes (content_of g.D.Sectors c.loop-before.store) w
    (subst (λ (x : Content). Represents x w) (sym (so_far.still.content word)) represents) c.args.root.now rooted
    c.batches-counts.ensures.proper c.loop-before.before
    (omega (arith, c.loop-before-test.true, ap (λ (l : List ℕ). length l) c.batches-counts.ensures.value))
    c.in_ok-column.column (c.in_ok-column.ensures.modes k) in
    ⊎_elim (λ memory. inl memory)
    (λ cause. inr (cause w.batches c.loop-before.before there.0 refl there.1 there.2
    (so_far.own word w represents rooted)))
    c.in_err-add.ensures.refused)

pub returns-in_err-add-clause-failed : goal.returns-in_err-add-clause-failed
returns-in_err-add-clause-failed g c =
    let p = err_from_is_err_and c.from_residual-in_err-add.result c.from_residual-in_err-add.ensures.1 in
    rw (p.1, p.2) (λ is. c.in_err-add.ensures.failed
    (ap (λ (f : Fault). Err f) (err_fault c.in_err-add.field-0.0 Failed is)))

pub returns-in_err-add-clause-reads : goal.returns-in_err-add-clause-reads
returns-in_err-add-clause-reads g c =
    let p = err_from_is_err_and c.from_residual-in_err-add.result c.from_residual-in_err-add.ensures.1 in
    let so_far = c.loop-before.invariant in
    let reads = c.in_ok-column.ensures.reads in
    rw (p.1, p.2) (has_read g.D.Sectors c.args.store.now c.read_mode_column.new.store _
    (λ is. c.in_err-add.ensures.device (ap (λ (f : Fault). Err f) (err_fault c.in_err-add.field-0.0 Device is)))
    (still_then g.D.Sectors c.args.store.now c.loop-before.store c.read_mode_column.new.store so_far.still
    (reads.stays (λ is. cc)))
    (reads_more g.D.Sectors c.args.store.now c.loop-before.store c.read_mode_column.new.store so_far.still so_far.leaves
    reads.leaves))

pub loop-before-preserved : goal.loop-before-preserved
loop-before-preserved g c =
    let first = c.args.store.now in
    let was = c.loop-before.store in
    let now = c.read_mode_column.new.store in
    let so_far = c.loop-before.invariant in
    let reads = c.in_ok-column.ensures.reads in
    let still : IsStill g.D.Sectors was now = reads.stays (λ is. cc) in record {
      fine = still.failed ∙ so_far.fine;
      still = still_then g.D.Sectors first was now so_far.still still;
      leaves = reads_more g.D.Sectors first was now so_far.still so_far.leaves reads.leaves;
      own = λ k w represents rooted.
          let word = still.word k in
          let there = said_modes (content_of g.D.Sectors c.loop-before.store) w
          (subst (λ (x : Content). Represents x w) (sym (so_far.still.content word)) represents) c.args.root.now rooted
          c.batches-counts.ensures.proper c.loop-before.before
          (omega (arith, c.loop-before-test.true, ap (λ (l : List ℕ). length l) c.batches-counts.ensures.value))
          c.in_ok-column.column (c.in_ok-column.ensures.modes k) in
          c.in_ok-add.ensures.ok w.batches c.loop-before.before there.0 refl there.1 there.2
          (so_far.own word w represents rooted);
    }

pub returns-in-Some-clause-refused : goal.returns-in-Some-clause-refused
returns-in-Some-clause-refused g c = λ other k w represents rooted.
    let all : c.loop-before.before ≡ length w.batches =
    omega (
      arith,
      c.loop-before-test.false,
      c.loop-before.auto.before-end,
      ap (λ (l : List ℕ). length l) (c.batches-counts.ensures.value ∙ ap (λ (r : PlainRoot). r.batches) rooted),
      length-map w.batches length,
    ) in
    inr (all_refused w.batches c.loop-before.gathered
    (subst (λ (n : ℕ). IsGathered w.batches n c.loop-before.gathered) all
    (c.loop-before.invariant.own k w represents rooted)) c.in-Some.place c.in-Some.is)

pub returns-in-None-clause-ok : goal.returns-in-None-clause-ok
returns-in-None-clause-ok g c = λ k w represents rooted.
    let all : c.loop-before.before ≡ length w.batches =
    omega (
      arith,
      c.loop-before-test.false,
      c.loop-before.auto.before-end,
      ap (λ (l : List ℕ). length l) (c.batches-counts.ensures.value ∙ ap (λ (r : PlainRoot). r.batches) rooted),
      length-map w.batches length,
    ) in
    all_gathered w.batches c.loop-before.gathered
    (subst (λ (n : ℕ). IsGathered w.batches n c.loop-before.gathered) all
    (c.loop-before.invariant.own k w represents rooted)) c.in-None.is
