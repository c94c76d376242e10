use Rattle.std.proofs.lemmas.Result.{IfErr-weaker, IfOk-weaker}
use Rattle.cube_model.specs.declared.fault.Fault.TheVariants.{BadLayout, Device}
use Rattle.stored_cuboids.specs.Nexts.{EndsBringing}
use Rattle.warehouse.proofs.Represented.{is_at}
use Rattle.warehouse.proofs.Cuboids.{kept_at, members_at}
use Rattle.warehouse.proofs.Caught.{finished_at, of_err, passed_on}
use Rattle.warehouse.proofs.session.Session.finish.Goals as goal

pub invariant_of-self : goal.invariant_of-self
invariant_of-self g c = record {
  loaded = λ fine k.
      let s = c.args.self.now in
      c.catch_up-caught.ensures.loaded fine k s.dims.value s.modes
      (s.loaded c.requires.fine (c.catch_up-caught.ensures.calls.word k));
}

pub returns-clause-leaves : goal.returns-clause-leaves
returns-clause-leaves g c w at =
    c.catch_up-caught.ensures.leaves w (kept_at g.D.Sectors w c.args.self.now at)
    (members_at g.D.Sectors w c.args.self.now at _ c.deref.ensures)

pub returns-clause-ok : goal.returns-clause-ok
returns-clause-ok g c =
    IfOk-weaker c.unless_no_room.result _ _
    (λ unit how w at.
    let store_at = kept_at g.D.Sectors w c.args.self.now at in
    let members =
    members_at g.D.Sectors w c.args.self.now at _ c.deref.ensures in
    let caught = c.catch_up-caught.result in
    let now = finished_at g.D.Sectors c.catch_up-caught.new.store c.catch_up-caught.new.root w caught how
    (IfOk-weaker caught _ _ (λ passed done. done w store_at members) c.catch_up-caught.ensures.ok)
    (IfErr-weaker caught _ _ (λ fault reason device memory. reason device memory w store_at members)
    c.catch_up-caught.ensures.reason) in
    (now.0, now.1, is_at g.D.Sectors _ now.0 now.2.fine now.2.represents, now.3))
    c.unless_no_room.ensures.ok

pub returns-clause-readable : goal.returns-clause-readable
returns-clause-readable g c is k w at =
    let bad = of_err c.unless_no_room.result _ BadLayout is c.unless_no_room.ensures.err in
    c.catch_up-caught.ensures.readable bad.0 k w (kept_at g.D.Sectors w c.args.self.now at)
    (members_at g.D.Sectors w c.args.self.now at _ c.deref.ensures)

pub returns-clause-causes : goal.returns-clause-causes
returns-clause-causes g c =
    IfErr-weaker c.unless_no_room.result _ _
    (λ fault how. passed_on fault how.1 how.2
    (of_err c.catch_up-caught.result EndsBringing fault how.0 c.catch_up-caught.ensures.causes))
    c.unless_no_room.ensures.err

pub returns-clause-device : goal.returns-clause-device
returns-clause-device g c is =
    let device = of_err c.unless_no_room.result _ Device is c.unless_no_room.ensures.err in
    c.catch_up-caught.ensures.calls.device device.0
