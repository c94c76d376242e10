use Rattle.std.proofs.Common.{rules, ◌≡◌, ◌∙◌, ◌<◌, ◌≤◌, ℕ, List, None, length, map}
use Rattle.std.proofs.Common.{slice_get, take, sym, ap, subst, arith}
use Rattle.std.proofs.lemmas.List.{length-map, take_all}
use Rattle.cube_model.specs.Admission.{all_rows}
use Rattle.cube_model.specs.declared.rows.LineOrder.{LineOrder}
use Rattle.object_store.specs.Content.{Content}
use Rattle.object_store.specs.Store.{IsStill, content_of, device_of}
use Rattle.batch_admission.specs.Totals.{totals_of}
use Rattle.warehouse_objects.specs.Represents.{IsLaidOut}
use Rattle.warehouse_objects.proofs.Batches.{get_within}
use Rattle.std.proofs.lemmas.Result.{err_from_is_err_and}
use Rattle.object_store.proofs.SourceLemmas.{still_then}
use Rattle.warehouse_objects.proofs.OneMoreRead.{has_read, reads_more, same_error, then_reads}
use Rattle.warehouse_check.proofs.Loop.{count_in, here_at, none_of, own_next, so_far_next, so_far_none}
use Rattle.object_store.proofs.CallerLemmas.{leaves_now}
use Rattle.warehouse_check.proofs.batches.check_batches.Goals as goal

pub loop-said-init : goal.loop-said-init
loop-said-init g c = record {
  fine = c.requires.fine;
  still = search rules;
  leaves = leaves_now g.D.Sectors g.met.D.Sectors.only_now c.args.store.now c.requires.fine;
  so_far = so_far_none _ _ _ _ _ c.new-admission.ensures;
  own = λ k w laid rooted same. c.new-admission.ensures;
}

pub returns-in_err-found-clause-reads : goal.returns-in_err-found-clause-reads
returns-in_err-found-clause-reads g c =
    let p = err_from_is_err_and c.from_residual.result c.from_residual.ensures.1 in
    rw (p.1, p.2) (same_error g.D.Sectors c.args.store.now c.check_batch.new.store _
    (then_reads g.D.Sectors c.args.store.now c.loop-said.store c.check_batch.new.store c.loop-said.invariant.still _
    c.requires.fine c.loop-said.invariant.leaves c.in_err-found.ensures.reads))

pub returns-then-is_some-clause-reads : goal.returns-then-is_some-clause-reads
returns-then-is_some-clause-reads g c =
    then_reads g.D.Sectors c.args.store.now c.loop-said.store c.check_batch.new.store c.loop-said.invariant.still _
    c.requires.fine
    c.loop-said.invariant.leaves
    (has_read g.D.Sectors c.loop-said.store c.check_batch.new.store _ (λ is. cc)
    (c.in_ok-found.ensures.reads.stays (λ is. cc)) c.in_ok-found.ensures.reads.leaves)

pub returns-then-is_some-clause-found : goal.returns-then-is_some-clause-found
returns-then-is_some-clause-found g c = λ is k w laid rooted same.
    let so_far = c.loop-said.invariant in
    let index : ℕ = c.loop-said.said-index in
    let word = c.in_ok-found.ensures.reads.leaves.word k in
    let items : c.batches-said-items.result.now ≡ map length w.batches = c.batches-said-items.ensures.value
    ∙ ap (λ r. r.batches) rooted in
    let lt : index < length (map length w.batches) =
    omega (arith, c.loop-said-test.true, ap (λ (l : List ℕ). length l) items) in
    let got = get_within w.batches index (omega (arith, lt, length-map w.batches length)) in
    let there = subst (λ (x : Content). IsLaidOut x w) (sym (so_far.still.content word)) laid in
    c.in_ok-found.ensures.found is k w index got.0 there same got.1
    (count_in c.batches-said-items.result.now w.batches index _ got.0 items c.loop-said-test.true got.1)
    (so_far.own word w laid rooted same)

pub loop-said-preserved : goal.loop-said-preserved
loop-said-preserved g c =
    let first = c.args.store.now in
    let was = c.loop-said.store in
    let now = c.check_batch.new.store in
    let so_far = c.loop-said.invariant in
    let index : ℕ = c.loop-said.said-index in
    let still : IsStill g.D.Sectors was now = c.in_ok-found.ensures.reads.stays (λ is. cc) in
    let none : c.in_ok-found.found ≡ None = none_of c.in_ok-found.found (sym c.is_some.ensures ∙ c.if-is_some.false) in
    record {
      fine = still.failed ∙ so_far.fine;
      still = still_then g.D.Sectors first was now so_far.still still;
      leaves = reads_more g.D.Sectors first was now so_far.still so_far.leaves c.in_ok-found.ensures.reads.leaves;
      so_far = so_far_next (g.D.Sectors.keeps_word (device_of was)) (g.D.Sectors.keeps_word (device_of now))
          (content_of g.D.Sectors first) (content_of g.D.Sectors was)
          c.args.dims.now c.args.root.now.batches index _ c.loop-said.admission c.check_batch.new.admission still.word
          (λ k. so_far.still.content (still.word k))
          (ap (λ (l : List ℕ). slice_get l index) (sym c.batches-said-items.ensures.value)
          ∙ here_at c.batches-said-items.result.now index _ c.loop-said-test.true)
          so_far.so_far (c.in_ok-found.ensures.sound none so_far.so_far.batches so_far.so_far.represent);
      own = λ k w laid rooted same.
          let items : c.batches-said-items.result.now ≡ map length w.batches = c.batches-said-items.ensures.value
          ∙ ap (λ r. r.batches) rooted in
          let within : index < length w.batches =
          omega (arith, c.loop-said-test.true, ap (λ (l : List ℕ). length l) items, length-map w.batches length) in
          own_next (g.D.Sectors.keeps_word (device_of now)) (content_of g.D.Sectors first) (content_of g.D.Sectors was)
          w c.args.dims.now index _ c.check_batch.new.admission laid (so_far.still.content (still.word k)) k within
          (c.in_ok-found.ensures.sound none (take index w.batches) (so_far.own (still.word k) w laid rooted same));
    }

pub returns-clause-found : goal.returns-clause-found
returns-clause-found g c = λ is k w laid rooted same.
    let so_far = c.loop-said.invariant in
    let index : ℕ = c.loop-said.said-index in
    let items : c.batches-said-items.result.now ≡ map length w.batches = c.batches-said-items.ensures.value
    ∙ ap (λ r. r.batches) rooted in
    let ends : length w.batches ≤ index =
    omega (arith, c.loop-said-test.false, ap (λ (l : List ℕ). length l) items, length-map w.batches length) in
    let represent = so_far.own k w laid rooted same in
    let counted : c.totals-2.result ≡ totals_of (all_rows w.batches) =
    c.totals-2.ensures.totals ∙ represent.totals
    ∙ ap (λ (bs : List (List LineOrder)). totals_of (all_rows bs)) (take_all index w.batches ends) in
    c.check_totals.ensures.found is (c.totals.ensures ∙ ap (λ r. r.totals) rooted ∙ sym counted)
