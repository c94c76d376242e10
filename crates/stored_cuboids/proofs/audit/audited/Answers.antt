use Rattle.std.proofs.Common.{Err, ◌≡◌, ◌<◌, ◌∙◌, ⊎_elim, ℕ, true, false, List, ap, arith, get_or, length, map, subst}
use Rattle.std.proofs.Common.{sym}
use Rattle.std.proofs.lemmas.Bool.{cases_lt}
use Rattle.std.proofs.lemmas.List.{length-map}
use Rattle.std.proofs.lemmas.Result.{err_from_is_err_and}
use Rattle.cube_model.specs.declared.fault.Fault.{Fault}
use Rattle.cube_model.specs.declared.fault.Fault.TheVariants.{BadLayout}
use Rattle.object_store.specs.Content.{Content}
use Rattle.object_store.specs.Store.{IsStill, content_of}
use Rattle.warehouse_root.specs.declared.cuboid.StoredCuboid.{StoredCuboid}
use Rattle.warehouse_objects.specs.Represents.{IsLaidOut, said_of}
use Rattle.warehouse_objects.proofs.Batches.{get_within}
use Rattle.warehouse_objects.proofs.Folded.{err_fault}
use Rattle.warehouse_objects.proofs.OneMoreRead.{has_read, reads_more, same_error, then_reads}
use Rattle.stored_cuboids.specs.Merged.{IsSound}
use Rattle.stored_cuboids.proofs.Auditing.{found_there, said_there}
use Rattle.object_store.proofs.SourceLemmas.{still_here, still_then}
use Rattle.object_store.proofs.CallerLemmas.{leaves_now}
use Rattle.stored_cuboids.proofs.audit.audited.Goals as goal

pub loop-cuboid-preserved : goal.loop-cuboid-preserved
loop-cuboid-preserved g c =
    let first = c.args.store.now in
    let was = c.loop-cuboid.store in
    let now = c.is_sound.new.store in
    let so_far = c.loop-cuboid.invariant in
    let content = content_of g.D.Sectors first in
    let index : ℕ = c.loop-cuboid.cuboid-index in
    let still : IsStill g.D.Sectors was now = c.in_ok-sound.ensures.reads.stays (λ is. cc) in record {
      fine = still.failed ∙ so_far.fine;
      still = still_then g.D.Sectors first was now so_far.still still;
      leaves = reads_more g.D.Sectors first was now so_far.still so_far.leaves c.in_ok-sound.ensures.reads.leaves;
      own = λ k w laid rooted same j d lt within.
          ⊎_elim (λ before. so_far.own (still.word k) w laid rooted same j d before within)
          (λ not_before.
          let is : index ≡ j = omega (arith, not_before, lt) in
          let here : index < length w.cuboids = omega (arith, is, within) in
          let entries : c.cuboids-cuboid-items.result.now ≡ map said_of w.cuboids = c.cuboids-cuboid-items.ensures.value
          ∙ ap (λ r. r.cuboids) rooted in
          let there = subst (λ (x : Content). IsLaidOut x w) (sym (so_far.still.content (still.word k))) laid in
          let answer = c.in_ok-sound.ensures.answer k w (get_or w.cuboids index d) there rooted same
          (found_there content w c.cuboids-cuboid-items.result.now laid entries index d _ here)
          (said_there content w c.cuboids-cuboid-items.result.now laid entries index d _ here) in
          subst (λ (n : ℕ). IsSound w (get_or w.cuboids n d)) is (answer.0 c.if-not-sound.false)) (cases_lt j index);
    }

pub returns-in_err-sound-clause-refused : goal.returns-in_err-sound-clause-refused
returns-in_err-sound-clause-refused g c =
    let p = err_from_is_err_and c.from_residual.result c.from_residual.ensures.1 in
    rw (p.1, p.2) (λ is k w laid rooted same.
    let so_far = c.loop-cuboid.invariant in
    let content = content_of g.D.Sectors c.args.store.now in
    let index : ℕ = c.loop-cuboid.cuboid-index in
    let word = c.in_err-sound.ensures.reads.leaves.word k in
    let entries : c.cuboids-cuboid-items.result.now ≡ map said_of w.cuboids = c.cuboids-cuboid-items.ensures.value
    ∙ ap (λ r. r.cuboids) rooted in
    let here : index < length w.cuboids =
    omega (
      arith,
      c.loop-cuboid-test.true,
      ap (λ (l : List StoredCuboid). length l) entries,
      length-map w.cuboids said_of,
    ) in
    let got = get_within w.cuboids index here in
    let there = subst (λ (x : Content). IsLaidOut x w) (sym (so_far.still.content word)) laid in
    c.in_err-sound.ensures.refused (ap (λ (f : Fault). Err f) (err_fault c.in_err-sound.field-0.0 BadLayout is)) k w
    (get_or w.cuboids index got.0) there rooted same
    (found_there content w c.cuboids-cuboid-items.result.now laid entries index got.0 _ here)
    (said_there content w c.cuboids-cuboid-items.result.now laid entries index got.0 _ here))

pub returns-in_err-sound-clause-reads : goal.returns-in_err-sound-clause-reads
returns-in_err-sound-clause-reads g c =
    let p = err_from_is_err_and c.from_residual.result c.from_residual.ensures.1 in
    rw (p.1, p.2) (same_error g.D.Sectors c.args.store.now c.is_sound.new.store _
    (then_reads g.D.Sectors c.args.store.now c.loop-cuboid.store c.is_sound.new.store c.loop-cuboid.invariant.still _
    c.requires.fine c.loop-cuboid.invariant.leaves c.in_err-sound.ensures.reads))

pub returns-then-not-sound-clause-answer : goal.returns-then-not-sound-clause-answer
returns-then-not-sound-clause-answer g c = λ k w laid rooted same.
    let so_far = c.loop-cuboid.invariant in
    let content = content_of g.D.Sectors c.args.store.now in
    let index : ℕ = c.loop-cuboid.cuboid-index in
    let word = c.in_ok-sound.ensures.reads.leaves.word k in
    let entries : c.cuboids-cuboid-items.result.now ≡ map said_of w.cuboids = c.cuboids-cuboid-items.ensures.value
    ∙ ap (λ r. r.cuboids) rooted in
    let here : index < length w.cuboids =
    omega (
      arith,
      c.loop-cuboid-test.true,
      ap (λ (l : List StoredCuboid). length l) entries,
      length-map w.cuboids said_of,
    ) in
    let got = get_within w.cuboids index here in
    let there = subst (λ (x : Content). IsLaidOut x w) (sym (so_far.still.content word)) laid in
    let answer = c.in_ok-sound.ensures.answer k w (get_or w.cuboids index got.0) there rooted same
    (found_there content w c.cuboids-cuboid-items.result.now laid entries index got.0 _ here)
    (said_there content w c.cuboids-cuboid-items.result.now laid entries index got.0 _ here) in
    (λ is. absurd (true_is_not_false is), λ all. sym c.if-not-sound.true ∙ answer.1 (all index got.0 here))
  where
    true_is_not_false : false ≡ true → ⊥
    true_is_not_false is = cc

pub returns-then-not-sound-clause-reads : goal.returns-then-not-sound-clause-reads
returns-then-not-sound-clause-reads g c =
    then_reads g.D.Sectors c.args.store.now c.loop-cuboid.store c.is_sound.new.store c.loop-cuboid.invariant.still _
    c.requires.fine
    c.loop-cuboid.invariant.leaves
    (has_read g.D.Sectors c.loop-cuboid.store c.is_sound.new.store _ (λ is. cc)
    (c.in_ok-sound.ensures.reads.stays (λ is. cc)) c.in_ok-sound.ensures.reads.leaves)

pub loop-cuboid-init : goal.loop-cuboid-init
loop-cuboid-init g c = record {
  fine = c.requires.fine;
  still = still_here g.D.Sectors c.args.store.now;
  leaves = leaves_now g.D.Sectors g.met.D.Sectors.only_now c.args.store.now c.requires.fine;
  own = λ word w laid rooted members k d none within. absurd (omega (arith, none));
}
