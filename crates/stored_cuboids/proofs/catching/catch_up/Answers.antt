use Rattle.std.proofs.Common.{◌≡◌, ◌+◌, ℕ, List, length, refl, sym, ◌∙◌, ap, subst, arith}
use Rattle.std.proofs.lemmas.List.{length-map}
use Rattle.object_store.specs.Content.{Content}
use Rattle.object_store.proofs.Moments.{leaves_weaker}
use Rattle.object_store.specs.Store as stores
use Rattle.warehouse_root.specs.Root.{PlainRoot}
use Rattle.warehouse_objects.specs.Warehouse.{Warehouse}
use Rattle.warehouse_objects.specs.Represents as represents
use Rattle.warehouse_objects.specs.Represents.{AreItsMembers, Represents, said_of}
use Rattle.warehouse_objects.proofs.Batches.{get_within}
use Rattle.stored_cuboids.proofs.Turns.{AreReached, all_done, leaves_first, leaves_more, lower_reached, members_kept}
use Rattle.stored_cuboids.proofs.Turns.{none_yet, one_more, same, still_reached, then_more}
use Rattle.object_store.proofs.CallerLemmas.{leaves_now}
use Rattle.stored_cuboids.proofs.StoreCalls.{one_more_call}
use Rattle.stored_cuboids.proofs.catching.catch_up.Goals as goal

pub loop-place-init : goal.loop-place-init
loop-place-init g c =
    let s = c.args.store.now in record {
      fine = c.requires.fine;
      failures = refl;
      many = ap (λ (l : List _). length l) (sym c.cuboids-count.ensures.value);
      word = λ k. k;
      loaded = λ k rows modes is. is;
      at = λ w at own. (w, same w, at, λ k. none_yet w);
      leaves = λ w at own.
          leaves_first w (stores.disk_of g.D.Sectors s) (stores.disk_of g.D.Sectors s)
          (leaves_weaker (λ (x : Content). x ≡ stores.content_of g.D.Sectors s) (λ (x : Content). Represents x w)
          (stores.disk_of g.D.Sectors s) (stores.disk_of g.D.Sectors s)
          (λ k x e. subst (λ (y : Content). Represents y w) (sym e) (at.represents k))
          (leaves_now g.D.Sectors g.met.D.Sectors.only_now c.args.store.now c.requires.fine));
    }

-- as many cuboids as the root says
many_there : (w : Warehouse) (root : PlainRoot) (count : ℕ) → represents.root_of w ≡ root → length root.cuboids ≡ count
    → length w.cuboids ≡ count
many_there w root count root_is many = sym (length-map w.cuboids said_of)
    ∙ ap (λ (r : PlainRoot). length r.cuboids) root_is ∙ many

pub loop-place-preserved : goal.loop-place-preserved
loop-place-preserved g c =
    let so_far = c.loop-place.invariant in
    let start = c.args.store.now in
    let mid = c.loop-place.store in
    let new = c.bring_on.new.store in record {
      fine = (c.in-Ok.ensures.calls.fine (λ is. cc));
      failures = (c.in-Ok.ensures.calls.failures (λ is. cc)) ∙ so_far.failures;
      many = c.bring_on.ensures.many ∙ so_far.many;
      word = λ k. so_far.word (c.bring_on.ensures.calls.word k);
      loaded = λ k rows modes is. c.bring_on.ensures.loaded (c.in-Ok.ensures.calls.fine (λ is. cc)) k rows modes
          (so_far.loaded (c.bring_on.ensures.calls.word k) rows modes is);
      at = λ w at own.
          let was = so_far.at w at own in
          let known : g.D.Sectors.keeps_word (stores.device_of c.loop-place.store)
          → AreItsMembers was.0 c.args.dims.now c.args.modes.now =
          λ k. members_kept w was.0 c.args.dims.now c.args.modes.now was.1.kept (own (so_far.word k)) in
          let now = c.in-Ok.ensures.stays (λ is. absurd cc) was.0 was.2 known in (
            now.0,
            then_more w was.0 now.0 was.1 now.1,
            now.2,
            λ k.
                let there = get_within now.0.cuboids c.loop-place.place
                (let many = many_there now.0 c.bring_on.new.root (length c.cuboids-count.result.now) (now.2.root_is k)
                (c.bring_on.ensures.many ∙ so_far.many) in omega (arith, many, c.loop-place-test.true)) in
                subst (λ f. AreReached (c.loop-place.place + 1) f now.0) (sym c.or-first.ensures)
                (one_more now.0 c.loop-place.place c.loop-place.first c.in-Ok.passed there.0 there.1
                (still_reached was.0 now.0 c.loop-place.place c.loop-place.first now.1
                (was.3 (c.bring_on.ensures.calls.word k)))
                (c.in-Ok.ensures.reached now.0 now.2 k
                (members_kept was.0 now.0 c.args.dims.now c.args.modes.now now.1.kept
                (known (c.bring_on.ensures.calls.word k))) there.0 there.1)),
          );
      leaves = λ w at own.
          let was = so_far.at w at own in
          let known : g.D.Sectors.keeps_word (stores.device_of c.loop-place.store)
          → AreItsMembers was.0 c.args.dims.now c.args.modes.now =
          λ k. members_kept w was.0 c.args.dims.now c.args.modes.now was.1.kept (own (so_far.word k)) in
          leaves_more w was.0 (stores.disk_of g.D.Sectors start) (stores.disk_of g.D.Sectors mid)
          (stores.disk_of g.D.Sectors new) was.1 (so_far.leaves w at own)
          (c.bring_on.ensures.leaves was.0 was.2 known);
    }

pub returns-in-Err-clause-leaves : goal.returns-in-Err-clause-leaves
returns-in-Err-clause-leaves g c w at own =
    let so_far = c.loop-place.invariant in
    let was = so_far.at w at own in
    leaves_more w was.0 (stores.disk_of g.D.Sectors c.args.store.now) (stores.disk_of g.D.Sectors c.loop-place.store)
    (stores.disk_of g.D.Sectors c.bring_on.new.store) was.1 (so_far.leaves w at own)
    (c.bring_on.ensures.leaves was.0 was.2
    (λ k. members_kept w was.0 c.args.dims.now c.args.modes.now was.1.kept (own (so_far.word k))))

pub returns-in-Err-clause-stays : goal.returns-in-Err-clause-stays
returns-in-Err-clause-stays g c other w at own =
    let so_far = c.loop-place.invariant in
    let was = so_far.at w at own in
    let now = c.in-Err.ensures.stays other was.0 was.2
    (λ k. members_kept w was.0 c.args.dims.now c.args.modes.now was.1.kept (own (so_far.word k))) in
    (now.0, then_more w was.0 now.0 was.1 now.1, now.2)

pub returns-in-Err-clause-reason : goal.returns-in-Err-clause-reason
returns-in-Err-clause-reason g c no_device no_memory w at own =
    let so_far = c.loop-place.invariant in
    let was = so_far.at w at own in
    let known : g.D.Sectors.keeps_word (stores.device_of c.loop-place.store)
    → AreItsMembers was.0 c.args.dims.now c.args.modes.now =
    λ k. members_kept w was.0 c.args.dims.now c.args.modes.now was.1.kept (own (so_far.word k)) in (
      was.0,
      was.1,
      c.in-Err.ensures.refused no_device was.0 was.2,
      λ k.
          let refused = c.in-Err.ensures.reason no_device no_memory k was.0 was.2 known in
          let before = c.bring_on.ensures.calls.word k in record {
            next = refused.0;
            lower = lower_reached was.0 c.loop-place.place c.loop-place.first refused.0.old
                (was.2.represents before).root.proper.ascending refused.1 (was.3 before);
          },
    )

pub returns-in-Err-clause-readable : goal.returns-in-Err-clause-readable
returns-in-Err-clause-readable g c is k w at own =
    let so_far = c.loop-place.invariant in
    let was = so_far.at w at own in
    c.in-Err.ensures.readable is k was.0 was.2
    (λ k. members_kept w was.0 c.args.dims.now c.args.modes.now was.1.kept (own (so_far.word k)))

pub returns-in-Err-clause-loaded : goal.returns-in-Err-clause-loaded
returns-in-Err-clause-loaded g c fine k rows modes is =
    let so_far = c.loop-place.invariant in
    c.bring_on.ensures.loaded fine k rows modes (so_far.loaded (c.bring_on.ensures.calls.word k) rows modes is)

pub returns-clause-stays : goal.returns-clause-stays
returns-clause-stays g c other w at own = let now = c.loop-place.invariant.at w at own in (now.0, now.1, now.2)

pub returns-clause-ok : goal.returns-clause-ok
returns-clause-ok g c w at own =
    let now = c.loop-place.invariant.at w at own in (
      now.0,
      now.1,
      now.2,
      λ k.
          let many = many_there now.0 c.loop-place.root (length c.cuboids-count.result.now) (now.2.root_is k)
          c.loop-place.invariant.many in
          all_done now.0 c.loop-place.place c.loop-place.first (now.2.represents k).root.proper.ascending
          (omega (arith, many, c.loop-place-test.false)) (now.3 k),
    )

pub returns-in-Err-clause-calls : goal.returns-in-Err-clause-calls
returns-in-Err-clause-calls g c =
    let so_far = c.loop-place.invariant in
    one_more_call g.D.Sectors _ c.args.store.now c.loop-place.store c.bring_on.new.store c.requires.fine so_far.word
    so_far.failures c.in-Err.ensures.calls

pub returns-clause-calls : goal.returns-clause-calls
returns-clause-calls g c =
    let so_far = c.loop-place.invariant in record {
      failed = λ is. cc;
      device = λ is. absurd cc;
      fine = λ other. so_far.fine;
      failures = λ other. so_far.failures;
      word = so_far.word;
    }
