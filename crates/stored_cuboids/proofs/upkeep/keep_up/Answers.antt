use Rattle.std.proofs.Common.{◌≡◌, ⊎_elim, inl, inr, Err, ℕ, List, [], length, All, sym, ap, subst}
use Rattle.object_store.specs.Content.{Content}
use Rattle.object_store.specs.Room.{Room}
use Rattle.object_store.specs.Store as stores
use Rattle.cube_model.specs.declared.fault.Fault.TheVariants.{Device, Failed}
use Rattle.warehouse_root.specs.Root as roots
use Rattle.warehouse_root.specs.declared.cuboid.StoredCuboid.{StoredCuboid}
use Rattle.warehouse_objects.specs.Represents.{root_of}
use Rattle.warehouse_objects.specs.Warehouse.{aimed}
use Rattle.stored_cuboids.proofs.Turns.{kept_same}
use Rattle.stored_cuboids.proofs.UpkeepLemmas.{all_whole, from_aimed, leaves_aimed, leaves_both, leaves_same}
use Rattle.stored_cuboids.proofs.UpkeepLemmas.{members_aimed, memory_or, target_is, whole_by_root}
use Rattle.object_store.proofs.CallerLemmas.{leaves_now}
use Rattle.warehouse_objects.proofs.Folded.{err_fault}
use Rattle.cube_model.specs.declared.fault.Fault.{Fault}
use Rattle.stored_cuboids.proofs.StoreCalls.{no_call_yet, one_more_call, refused_alike}
use Rattle.stored_cuboids.proofs.upkeep.keep_up.Goals as goal

pub returns-then-are_whole-clause-leaves : goal.returns-then-are_whole-clause-leaves
returns-then-are_whole-clause-leaves g c w at own =
    let s = c.args.store.now in
    leaves_same w (stores.content_of g.D.Sectors s) (stores.disk_of g.D.Sectors s) (stores.disk_of g.D.Sectors s)
    at.represents (leaves_now g.D.Sectors g.met.D.Sectors.only_now c.args.store.now c.requires.fine)

pub returns-then-are_whole-clause-stays : goal.returns-then-are_whole-clause-stays
returns-then-are_whole-clause-stays g c other w at own = (w, kept_same w, at)

pub returns-then-are_whole-clause-ok : goal.returns-then-are_whole-clause-ok
returns-then-are_whole-clause-ok g c w at own = (
  w,
  kept_same w,
  at,
  λ k. whole_by_root w c.args.root.now _ (at.root_is k) (ap (λ (l : List ℕ). length l) c.batches.ensures.value)
      (subst (λ (l : List StoredCuboid). All (λ cuboid. cuboid.mark ≡ length c.batches.result.now) l)
      c.cuboids.ensures.value
      (c.are_whole.ensures.0 c.if-are_whole.true)),
)

pub returns-in-Err-clause-leaves : goal.returns-in-Err-clause-leaves
returns-in-Err-clause-leaves g c w at own =
    leaves_aimed w (stores.disk_of g.D.Sectors c.args.store.now) (stores.disk_of g.D.Sectors c.aim.new.store)
    (c.aim.ensures.leaves w at)

pub returns-in-Err-clause-stays : goal.returns-in-Err-clause-stays
returns-in-Err-clause-stays g c other w at own =
    (w, kept_same w, (c.in-Err.ensures.refused (λ e. other (ap (λ f. Err f) e)) w at).0)

pub returns-in-Err-clause-refused : goal.returns-in-Err-clause-refused
returns-in-Err-clause-refused g c cause w at own =
    let same = c.in-Err.ensures.as_before cause in (
      w,
      kept_same w,
      (c.in-Err.ensures.refused cause w at).0,
      λ k. inr (inl
          (subst (λ (x : Content). stores.Refuses x (stores.room_of c.aim.new.store) [] []
          (roots.root_spelling (root_of (aimed w))) c.in-Err.fault) (sym same.content)
          (subst (λ (room : Room). stores.Refuses (stores.content_of g.D.Sectors c.args.store.now) room [] []
          (roots.root_spelling (root_of (aimed w))) c.in-Err.fault) (sym same.room)
          (c.in-Err.ensures.causes cause w at k)))),
    )

pub returns-in-Ok-clause-leaves : goal.returns-in-Ok-clause-leaves
returns-in-Ok-clause-leaves g c w at own =
    let mid = c.in_default.ensures.ok w at in
    leaves_both w (stores.disk_of g.D.Sectors c.args.store.now) (stores.disk_of g.D.Sectors c.aim.new.store)
    (stores.disk_of g.D.Sectors c.catch_up.new.store)
    (c.aim.ensures.leaves w at)
    (c.catch_up.ensures.leaves (aimed w) mid
    (λ k. members_aimed w c.args.dims.now c.args.modes.now (own (c.aim.ensures.calls.word k))))

pub returns-in-Ok-clause-stays : goal.returns-in-Ok-clause-stays
returns-in-Ok-clause-stays g c other w at own =
    let mid = c.in_default.ensures.ok w at in
    let now = c.in-Ok.ensures.stays (λ is. absurd cc) (aimed w) mid
    (λ k. members_aimed w c.args.dims.now c.args.modes.now (own (c.aim.ensures.calls.word k))) in
    (now.0, from_aimed w now.0 now.1, now.2)

pub returns-in-Ok-clause-ok : goal.returns-in-Ok-clause-ok
returns-in-Ok-clause-ok g c w at own =
    let mid = c.in_default.ensures.ok w at in
    let now = c.in-Ok.ensures.ok (aimed w) mid
    (λ k. members_aimed w c.args.dims.now c.args.modes.now (own (c.aim.ensures.calls.word k))) in (
      now.0,
      from_aimed w now.0 now.1,
      now.2,
      λ k. all_whole (stores.content_of g.D.Sectors c.catch_up.new.store) now.0
          c.in-Ok.passed (now.2.represents k) (target_is w now.0 now.1) (now.3 k),
    )

pub returns-in-Err-catch_up-clause-leaves : goal.returns-in-Err-catch_up-clause-leaves
returns-in-Err-catch_up-clause-leaves g c w at own =
    let mid = c.in_default.ensures.ok w at in
    leaves_both w (stores.disk_of g.D.Sectors c.args.store.now) (stores.disk_of g.D.Sectors c.aim.new.store)
    (stores.disk_of g.D.Sectors c.catch_up.new.store)
    (c.aim.ensures.leaves w at)
    (c.catch_up.ensures.leaves (aimed w) mid
    (λ k. members_aimed w c.args.dims.now c.args.modes.now (own (c.aim.ensures.calls.word k))))

pub returns-in-Err-catch_up-clause-stays : goal.returns-in-Err-catch_up-clause-stays
returns-in-Err-catch_up-clause-stays g c other w at own =
    let mid = c.in_default.ensures.ok w at in
    let now = c.in-Err-catch_up.ensures.stays other (aimed w) mid
    (λ k. members_aimed w c.args.dims.now c.args.modes.now (own (c.aim.ensures.calls.word k))) in
    (now.0, from_aimed w now.0 now.1, now.2)

pub returns-in-Err-catch_up-clause-refused : goal.returns-in-Err-catch_up-clause-refused
returns-in-Err-catch_up-clause-refused g c cause w at own =
    let mid = c.in_default.ensures.ok w at in
    ⊎_elim
    (λ memory. let now = c.in-Err-catch_up.ensures.stays
    (λ is. let e : c.in-Err-catch_up.fault ≡ Device = cc is in cause e) (aimed w) mid
    (λ k. members_aimed w c.args.dims.now c.args.modes.now (own (c.aim.ensures.calls.word k))) in
    (now.0, from_aimed w now.0 now.1, now.2, λ k. inl memory))
    (λ other. let now = c.in-Err-catch_up.ensures.reason cause other (aimed w) mid
    (λ k. members_aimed w c.args.dims.now c.args.modes.now (own (c.aim.ensures.calls.word k))) in
    (now.0, from_aimed w now.0 now.1, now.2, λ k. inr (inr (now.3 k))))
    (memory_or c.in-Err-catch_up.fault)

pub returns-in-Ok-clause-loaded : goal.returns-in-Ok-clause-loaded
returns-in-Ok-clause-loaded g c fine k rows modes is =
    c.catch_up.ensures.loaded fine k rows modes
    (c.aim.ensures.loaded (c.in_default.ensures.calls.fine (λ is. cc)) (c.catch_up.ensures.calls.word k) rows modes is)

pub returns-in-Err-catch_up-clause-loaded : goal.returns-in-Err-catch_up-clause-loaded
returns-in-Err-catch_up-clause-loaded g c fine k rows modes is =
    c.catch_up.ensures.loaded fine k rows modes
    (c.aim.ensures.loaded (c.in_default.ensures.calls.fine (λ is. cc)) (c.catch_up.ensures.calls.word k) rows modes is)

pub returns-then-are_whole-clause-calls : goal.returns-then-are_whole-clause-calls
returns-then-are_whole-clause-calls g c =
    no_call_yet g.D.Sectors _ c.args.store.now c.requires.fine (λ is. cc) (λ is. cc)

pub returns-in-Err-clause-calls : goal.returns-in-Err-clause-calls
returns-in-Err-clause-calls g c =
    let fault = c.in-Err.fault in
    refused_alike g.D.Sectors _ _ c.args.store.now c.aim.new.store
    (λ is. ap (λ (f : Fault). Err f) (err_fault fault Failed is))
    (λ is. ap (λ (f : Fault). Err f) (err_fault fault Device is))
    (λ is. ap (λ (f : Fault). Err f) (err_fault fault Device is)) c.in-Err.ensures.calls

pub returns-in-Ok-clause-calls : goal.returns-in-Ok-clause-calls
returns-in-Ok-clause-calls g c =
    one_more_call g.D.Sectors _ c.args.store.now c.aim.new.store c.catch_up.new.store c.requires.fine
    c.aim.ensures.calls.word (c.in_default.ensures.calls.failures (λ is. cc)) c.in-Ok.ensures.calls

pub returns-in-Err-catch_up-clause-calls : goal.returns-in-Err-catch_up-clause-calls
returns-in-Err-catch_up-clause-calls g c =
    one_more_call g.D.Sectors _ c.args.store.now c.aim.new.store c.catch_up.new.store c.requires.fine
    c.aim.ensures.calls.word (c.in_default.ensures.calls.failures (λ is. cc)) c.in-Err-catch_up.ensures.calls
