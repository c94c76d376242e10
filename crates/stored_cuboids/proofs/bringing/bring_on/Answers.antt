use Rattle.std.proofs.Common.{◌≡◌, ◌∙◌, true, false, ⊎_elim, Some, Err, [], ◌∷◌, slice_get, sym, ap, subst, arith}
use Rattle.cube_model.specs.declared.fault.Fault.{Fault}
use Rattle.cube_model.specs.declared.fault.Fault.TheVariants.{BadLayout, Device, Failed}
use Rattle.cube_model.specs.FaultNumbers.{number_of}
use Rattle.lattice.specs.Views.{index_of}
use Rattle.object_store.specs.Store.{IsStill, content_of, room_of}
use Rattle.warehouse_root.specs.Root.{PlainRoot}
use Rattle.stored_cuboids.specs.Keeping.{StoreAt}
use Rattle.stored_cuboids.specs.Nexts.{RefusesToBringOn}
use Rattle.stored_cuboids.proofs.BringingLemmas.{far_enough, bad_not_device, bring_leaves, bring_reached, bring_stays}
use Rattle.stored_cuboids.proofs.BringingLemmas.{ends_refused, ends_unread, many_by_number, never_failed, none_left}
use Rattle.stored_cuboids.proofs.BringingLemmas.{not_device, passed_over, read_leaves, refused_next, stored_at}
use Rattle.warehouse_objects.specs.Loaded.{IsLoaded}
use Rattle.warehouse_objects.proofs.Folded.{err_fault}
use Rattle.stored_cuboids.proofs.LaterReads.{at_before, at_still, loaded_before, loaded_still}
use Rattle.stored_cuboids.proofs.Turns.{same}
use Rattle.object_store.proofs.CallerLemmas.{leaves_now}
use Rattle.stored_cuboids.proofs.StoreCalls.{no_call_yet, one_more_call, read_refused, refused_alike}
use Rattle.stored_cuboids.proofs.bringing.bring_on.Goals as goal

pub returns-then-target-cuboid-clause-leaves : goal.returns-then-target-cuboid-clause-leaves
returns-then-target-cuboid-clause-leaves g c w at rows =
    read_leaves g.D.Sectors c.args.store.now c.args.store.now c.args.root.now w at
    (leaves_now g.D.Sectors g.met.D.Sectors.only_now c.args.store.now c.requires.fine)

pub returns-then-target-cuboid-clause-stays : goal.returns-then-target-cuboid-clause-stays
returns-then-target-cuboid-clause-stays g c other w at rows = (w, same w, at)

pub returns-then-target-cuboid-clause-reached : goal.returns-then-target-cuboid-clause-reached
returns-then-target-cuboid-clause-reached g c v at k rows cuboid is =
    far_enough v c.args.root.now c.cuboid_at.result.0 c.args.place cuboid (at.root_is k) c.cuboid_at.ensures.at is
    (omega (arith, c.target.ensures, c.if-target-cuboid.true))

pub returns-in-Ok-put_next-clause-leaves : goal.returns-in-Ok-put_next-clause-leaves
returns-in-Ok-put_next-clause-leaves g c w at rows =
    bring_leaves g.D.Sectors c.args.store.now c.next_of.new.store (c.in-Ok.ensures.reads.stays (λ is. cc))
    c.args.dims.now c.args.modes.now
    c.args.root.now c.cuboid_at.result.0 c.args.place c.cuboid_at.ensures.at
    c.in-Ok.next c.in-Ok.ensures.ok c.put_next.new.store w at rows c.next_of.ensures.reads.leaves
    c.put_next.ensures.leaves

pub returns-in-Ok-put_next-clause-stays : goal.returns-in-Ok-put_next-clause-stays
returns-in-Ok-put_next-clause-stays g c other w at rows =
    bring_stays g.D.Sectors c.args.store.now c.next_of.new.store (c.in-Ok.ensures.reads.stays (λ is. cc))
    c.args.dims.now c.args.modes.now
    c.args.root.now c.cuboid_at.result.0 c.args.place c.cuboid_at.ensures.at
    c.in-Ok.next c.in-Ok.ensures.ok c.put_next.new.store c.put_next.new.root w at rows c.in-Ok-put_next.ensures.ok

pub returns-in-Ok-put_next-clause-reached : goal.returns-in-Ok-put_next-clause-reached
returns-in-Ok-put_next-clause-reached g c v at k rows cuboid is =
    bring_reached g.D.Sectors c.args.store.now c.next_of.new.store (c.in-Ok.ensures.reads.stays (λ e. cc))
    c.args.dims.now c.args.modes.now
    c.args.root.now c.cuboid_at.result.0 c.args.place c.cuboid_at.ensures.at
    c.in-Ok.next c.in-Ok.ensures.ok c.put_next.new.store c.put_next.new.root c.in-Ok-put_next.ensures.root v at k cuboid
    is

pub returns-in-Err-put_next-clause-leaves : goal.returns-in-Err-put_next-clause-leaves
returns-in-Err-put_next-clause-leaves g c w at rows =
    bring_leaves g.D.Sectors c.args.store.now c.next_of.new.store (c.in-Ok.ensures.reads.stays (λ is. cc))
    c.args.dims.now c.args.modes.now
    c.args.root.now c.cuboid_at.result.0 c.args.place c.cuboid_at.ensures.at
    c.in-Ok.next c.in-Ok.ensures.ok c.put_next.new.store w at rows c.next_of.ensures.reads.leaves
    c.put_next.ensures.leaves

pub returns-in-Err-put_next-clause-stays : goal.returns-in-Err-put_next-clause-stays
returns-in-Err-put_next-clause-stays g c other w at rows =
    let still : IsStill g.D.Sectors c.args.store.now c.next_of.new.store = c.in-Ok.ensures.reads.stays (λ is. cc) in
    let before = c.in-Err-put_next.ensures.refused (λ device. other (ap (λ (f : Fault). Err f) device)) in (
      w,
      same w,
      subst (λ (r : PlainRoot). StoreAt g.D.Sectors c.put_next.new.store r w) (sym c.in-Err-put_next.ensures.unchanged)
          (at_before g.D.Sectors c.next_of.new.store c.put_next.new.store before c.args.root.now w
          (at_still g.D.Sectors c.args.store.now c.next_of.new.store still c.args.root.now w at)),
    )

pub returns-in-Err-put_next-clause-reason : goal.returns-in-Err-put_next-clause-reason
returns-in-Err-put_next-clause-reason g c no_device no_memory k w at rows =
    let still : IsStill g.D.Sectors c.args.store.now c.next_of.new.store = c.in-Ok.ensures.reads.stays (λ is. cc) in
    let next = c.in-Ok.next in
    let fault : Fault = c.in-Err-put_next.fault in
    ⊎_elim {C = (refused : RefusesToBringOn g.D.Sectors c.put_next.new.store w fault)
    × (slice_get w.cuboids c.args.place ≡ Some refused.old)}
    (λ (bad : fault ≡ BadLayout). absurd
    (c.in-Err-put_next.ensures.readable (ap (λ (f : Fault). Err f) bad) k w
    (at_still g.D.Sectors c.args.store.now c.next_of.new.store still c.args.root.now w at)))
    (λ refuses. refused_next g.D.Sectors c.args.store.now c.next_of.new.store still c.args.dims.now c.args.modes.now
    c.args.root.now
    c.cuboid_at.result.0 c.args.place c.cuboid_at.ensures.at next c.in-Ok.ensures.ok
    c.put_next.new.store w fault at rows (c.put_next.ensures.calls.word k)
    (omega (arith, c.target.ensures, c.if-target-cuboid.false)) (c.in-Err-put_next.ensures.refused no_device)
    refuses)
    (c.in-Err-put_next.ensures.causes no_device)

pub returns-in-Err-put_next-clause-causes : goal.returns-in-Err-put_next-clause-causes
returns-in-Err-put_next-clause-causes g c =
    let next = c.in-Ok.next in
    ends_refused (content_of g.D.Sectors c.next_of.new.store) (room_of c.next_of.new.store)
    ((next.id, next.bytes.items) ∷ []) next.drops.items next.root_bytes.items c.in-Err-put_next.fault
    c.in-Err-put_next.ensures.causes

pub returns-in-Err-2-clause-causes : goal.returns-in-Err-2-clause-causes
returns-in-Err-2-clause-causes g c =
    ends_unread c.in-Err.fault (index_of c.cuboid_at.result.1)
    (λ many. let large = c.is_too_large.ensures.1 (ap number_of many) in cc (large, c.if-is_too_large.false))
    c.in-Err.ensures.causes

pub returns-in-Err-clause-leaves : goal.returns-in-Err-clause-leaves
returns-in-Err-clause-leaves g c w at rows =
    read_leaves g.D.Sectors c.args.store.now c.next_of.new.store c.args.root.now w at c.next_of.ensures.reads.leaves

pub returns-in-Err-clause-stays : goal.returns-in-Err-clause-stays
returns-in-Err-clause-stays g c other w at rows =
    let many = many_by_number c.in-Err.fault (index_of c.cuboid_at.result.1)
    (c.is_too_large.ensures.0 c.if-is_too_large.true) c.in-Err.ensures.causes in (
      w,
      same w,
      at_still g.D.Sectors c.args.store.now c.next_of.new.store
          (c.in-Err.ensures.reads.stays (not_device c.in-Err.fault (index_of c.cuboid_at.result.1) many))
          c.args.root.now w
          at,
    )

pub returns-in-Err-clause-reached : goal.returns-in-Err-clause-reached
returns-in-Err-clause-reached g c v at k rows cuboid is =
    let many = many_by_number c.in-Err.fault (index_of c.cuboid_at.result.1)
    (c.is_too_large.ensures.0 c.if-is_too_large.true) c.in-Err.ensures.causes in
    passed_over g.D.Sectors c.args.store.now c.next_of.new.store
    (c.in-Err.ensures.reads.stays (not_device c.in-Err.fault (index_of c.cuboid_at.result.1) many)) c.args.dims.now
    c.args.modes.now
    c.args.root.now
    c.cuboid_at.result.0 c.args.place c.cuboid_at.ensures.at c.cuboid_at.result.1 c.cuboid_at.ensures.view
    (c.in-Err.ensures.large (ap (λ (f : Fault). Err f) many) k) v at k rows cuboid is

pub returns-in-Err-2-clause-leaves : goal.returns-in-Err-2-clause-leaves
returns-in-Err-2-clause-leaves g c w at rows =
    read_leaves g.D.Sectors c.args.store.now c.next_of.new.store c.args.root.now w at c.next_of.ensures.reads.leaves

pub returns-in-Err-2-clause-stays : goal.returns-in-Err-2-clause-stays
returns-in-Err-2-clause-stays g c other w at rows =
    let still : IsStill g.D.Sectors c.args.store.now c.next_of.new.store =
    c.in-Err.ensures.reads.stays (λ is. other (ap (λ (f : Fault). Err f) (err_fault c.in-Err.fault Device is))) in
    (w, same w, at_still g.D.Sectors c.args.store.now c.next_of.new.store still c.args.root.now w at)

pub returns-in-Err-2-clause-refused : goal.returns-in-Err-2-clause-refused
returns-in-Err-2-clause-refused g c no_device w at =
    at_still g.D.Sectors c.args.store.now c.next_of.new.store
    (c.in-Err.ensures.reads.stays (λ is. no_device (err_fault c.in-Err.fault Device is))) c.args.root.now w at

pub returns-in-Err-2-clause-readable : goal.returns-in-Err-2-clause-readable
returns-in-Err-2-clause-readable g c is k w at rows =
    let bad : c.in-Err.fault ≡ BadLayout = err_fault c.in-Err.fault BadLayout is in
    let still : IsStill g.D.Sectors c.args.store.now c.next_of.new.store =
    c.in-Err.ensures.reads.stays (bad_not_device c.in-Err.fault bad) in
    let k0 = still.word k in
    let found = stored_at g.D.Sectors c.args.store.now c.next_of.new.store still c.args.dims.now c.args.modes.now
    c.args.root.now
    c.cuboid_at.result.0 c.args.place c.cuboid_at.ensures.at w at k in
    c.in-Err.ensures.refused (ap (λ (f : Fault). Err f) bad) k w found.0 (at.represents k0) found.2 (rows k0)

pub returns-in-Err-2-clause-reason : goal.returns-in-Err-2-clause-reason
returns-in-Err-2-clause-reason g c no_device no_memory k w at rows =
    let fault : Fault = c.in-Err.fault in
    let still : IsStill g.D.Sectors c.args.store.now c.next_of.new.store =
    c.in-Err.ensures.reads.stays (λ is. no_device (err_fault c.in-Err.fault Device is)) in
    let k0 = still.word k in
    let found = stored_at g.D.Sectors c.args.store.now c.next_of.new.store still c.args.dims.now c.args.modes.now
    c.args.root.now
    c.cuboid_at.result.0 c.args.place c.cuboid_at.ensures.at w at k in
    absurd (none_left fault (index_of c.cuboid_at.result.1) no_memory no_device
    (λ bad. c.in-Err.ensures.refused (ap (λ (f : Fault). Err f) bad) k w found.0 (at.represents k0) found.2 (rows k0))
    (λ many. let large = c.is_too_large.ensures.1 (ap number_of many) in cc (large, c.if-is_too_large.false))
    c.in-Err.ensures.causes)

pub returns-in-Ok-put_next-clause-loaded : goal.returns-in-Ok-put_next-clause-loaded
returns-in-Ok-put_next-clause-loaded g c fine k rows modes is =
    c.in-Ok-put_next.ensures.loaded k rows modes
    (loaded_still g.D.Sectors c.args.store.now c.next_of.new.store (c.in-Ok.ensures.reads.stays (λ e. cc))
    (c.put_next.ensures.calls.word k) rows modes c.args.root.now is)
    (ap (λ (r : PlainRoot). r.layout) c.in-Ok.ensures.ok.root_is)

pub returns-in-Err-put_next-clause-loaded : goal.returns-in-Err-put_next-clause-loaded
returns-in-Err-put_next-clause-loaded g c fine k rows modes is =
    subst (λ (r : PlainRoot). IsLoaded (content_of g.D.Sectors c.put_next.new.store) rows modes r)
    (sym c.in-Err-put_next.ensures.unchanged)
    (loaded_before g.D.Sectors c.next_of.new.store c.put_next.new.store
    (c.in-Err-put_next.ensures.refused (λ e.
    let both : true ≡ false = sym (c.in-Err-put_next.ensures.calls.device (ap (λ f. Err f) e)).failed ∙ fine in
    absurd cc))
    rows modes c.args.root.now
    (loaded_still g.D.Sectors c.args.store.now c.next_of.new.store (c.in-Ok.ensures.reads.stays (λ e. cc))
    (c.put_next.ensures.calls.word k) rows modes c.args.root.now is))

pub returns-then-target-cuboid-clause-calls : goal.returns-then-target-cuboid-clause-calls
returns-then-target-cuboid-clause-calls g c =
    no_call_yet g.D.Sectors _ c.args.store.now c.requires.fine (λ is. cc) (λ is. cc)

pub returns-in-Ok-put_next-clause-calls : goal.returns-in-Ok-put_next-clause-calls
returns-in-Ok-put_next-clause-calls g c =
    let still : IsStill g.D.Sectors c.args.store.now c.next_of.new.store = c.in-Ok.ensures.reads.stays (λ is. cc) in
    let calls = c.in-Ok-put_next.ensures.calls in record {
      failed = λ is. cc;
      device = λ is. absurd cc;
      fine = λ other. calls.fine (λ is. cc);
      failures = λ other. calls.failures (λ is. cc) ∙ still.failures;
      word = λ k. still.word (calls.word k);
    }

pub returns-in-Err-put_next-clause-calls : goal.returns-in-Err-put_next-clause-calls
returns-in-Err-put_next-clause-calls g c =
    let still : IsStill g.D.Sectors c.args.store.now c.next_of.new.store = c.in-Ok.ensures.reads.stays (λ is. cc) in
    let fault = c.in-Err-put_next.fault in
    refused_alike g.D.Sectors _ _ c.args.store.now c.put_next.new.store
    (λ is. ap (λ (f : Fault). Err f) (err_fault fault Failed is))
    (λ is. ap (λ (f : Fault). Err f) (err_fault fault Device is))
    (λ is. ap (λ (f : Fault). Err f) (err_fault fault Device is))
    (one_more_call g.D.Sectors _ c.args.store.now c.next_of.new.store c.put_next.new.store c.requires.fine still.word
    still.failures c.in-Err-put_next.ensures.calls)

pub returns-in-Err-2-clause-calls : goal.returns-in-Err-2-clause-calls
returns-in-Err-2-clause-calls g c =
    let fault = c.in-Err.fault in
    read_refused g.D.Sectors _ (Err fault) c.args.store.now c.next_of.new.store c.requires.fine c.in-Err.ensures.reads
    (never_failed fault (index_of c.cuboid_at.result.1) c.in-Err.ensures.causes)
    (λ is. ap (λ (f : Fault). Err f) (err_fault fault Device is))
    (λ is. ap (λ (f : Fault). Err f) (err_fault fault Device is))

pub returns-in-Err-clause-calls : goal.returns-in-Err-clause-calls
returns-in-Err-clause-calls g c =
    let fault = c.in-Err.fault in
    let many = many_by_number fault (index_of c.cuboid_at.result.1)
    (c.is_too_large.ensures.0 c.if-is_too_large.true) c.in-Err.ensures.causes in
    read_refused g.D.Sectors _ (Err fault) c.args.store.now c.next_of.new.store c.requires.fine c.in-Err.ensures.reads
    (λ is. cc) (λ is. absurd cc)
    (λ is. absurd (not_device fault (index_of c.cuboid_at.result.1) many is))
