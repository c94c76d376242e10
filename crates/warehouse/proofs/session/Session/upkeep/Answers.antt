use Rattle.std.proofs.Common.{sym}
use Rattle.std.proofs.Common.{◌≡◌, ◌∙◌, ℕ, inl, inr, Option, Err, ap, subst}
use Rattle.cube_model.specs.declared.fault.Fault.TheVariants.{Device, TooManyCells}
use Rattle.lattice.specs.declared.view.View.{View}
use Rattle.lattice.specs.Views.{index_of}
use Rattle.stored_cuboids.specs.Upkeep.{AreWholeBut}
use Rattle.warehouse.proofs.Represented.{is_at}
use Rattle.warehouse.proofs.Cuboids.{kept_at, members_at}
use Rattle.warehouse.proofs.session.Session.upkeep.Goals as goal

pub invariant_of-self : goal.invariant_of-self
invariant_of-self g c = record {
  loaded = λ fine k.
      let s = c.args.self.now in
      c.keep_up.ensures.loaded fine k s.dims.value s.modes
      (s.loaded (sym c.is_broken.ensures.broken ∙ c.if-is_broken.false) (c.keep_up.ensures.calls.word k));
}

pub returns-in-None-clause-leaves : goal.returns-in-None-clause-leaves
returns-in-None-clause-leaves g c w at =
    c.keep_up.ensures.leaves w (kept_at g.D.Sectors w c.args.self.now at)
    (members_at g.D.Sectors w c.args.self.now at _ c.deref.ensures)

pub returns-in-Some-clause-leaves : goal.returns-in-Some-clause-leaves
returns-in-Some-clause-leaves g c w at =
    c.keep_up.ensures.leaves w (kept_at g.D.Sectors w c.args.self.now at)
    (members_at g.D.Sectors w c.args.self.now at _ c.deref.ensures)

pub returns-in-Err-clause-leaves : goal.returns-in-Err-clause-leaves
returns-in-Err-clause-leaves g c w at =
    c.keep_up.ensures.leaves w (kept_at g.D.Sectors w c.args.self.now at)
    (members_at g.D.Sectors w c.args.self.now at _ c.deref.ensures)

pub returns-in-None-clause-stays : goal.returns-in-None-clause-stays
returns-in-None-clause-stays g c other w at =
    let then_at = c.in-Ok.ensures.stays (λ is. absurd cc) w (kept_at g.D.Sectors w c.args.self.now at)
    (members_at g.D.Sectors w c.args.self.now at _ c.deref.ensures) in
    (then_at.0, then_at.1, is_at g.D.Sectors _ then_at.0 then_at.2.fine then_at.2.represents)

pub returns-in-Some-clause-stays : goal.returns-in-Some-clause-stays
returns-in-Some-clause-stays g c other w at =
    let then_at = c.in-Ok.ensures.stays (λ is. absurd cc) w (kept_at g.D.Sectors w c.args.self.now at)
    (members_at g.D.Sectors w c.args.self.now at _ c.deref.ensures) in
    (then_at.0, then_at.1, is_at g.D.Sectors _ then_at.0 then_at.2.fine then_at.2.represents)

pub returns-in-Err-clause-stays : goal.returns-in-Err-clause-stays
returns-in-Err-clause-stays g c other w at =
    let then_at = c.in-Err.ensures.stays (λ is. let e : c.in-Err.fault ≡ Device = cc is in other (ap (λ f. Err f) e)) w
    (kept_at g.D.Sectors w c.args.self.now at)
    (members_at g.D.Sectors w c.args.self.now at _ c.deref.ensures) in
    (then_at.0, then_at.1, is_at g.D.Sectors _ then_at.0 then_at.2.fine then_at.2.represents)

pub returns-in-None-clause-ok : goal.returns-in-None-clause-ok
returns-in-None-clause-ok g c w at =
    let then_at =
    c.in-Ok.ensures.ok w (kept_at g.D.Sectors w c.args.self.now at)
    (members_at g.D.Sectors w c.args.self.now at _ c.deref.ensures) in (
      then_at.0,
      then_at.1,
      is_at g.D.Sectors _ then_at.0 then_at.2.fine then_at.2.represents,
      λ k. subst (λ (passed : Option View). AreWholeBut then_at.0 passed) c.in-None.is (then_at.3 k),
    )

pub returns-in-Some-clause-refused : goal.returns-in-Some-clause-refused
returns-in-Some-clause-refused g c cause w at =
    let then_at =
    c.in-Ok.ensures.ok w (kept_at g.D.Sectors w c.args.self.now at)
    (members_at g.D.Sectors w c.args.self.now at _ c.deref.ensures) in (
      then_at.0,
      then_at.1,
      is_at g.D.Sectors _ then_at.0 then_at.2.fine then_at.2.represents,
      λ k.
          let done = subst (λ (passed : Option View). AreWholeBut then_at.0 passed) c.in-Some.is (then_at.3 k) in
          inl (index_of c.in-Some.view, ap (λ (n : ℕ). TooManyCells n) c.index.ensures, done.0, done.1),
    )

pub returns-in-Err-clause-refused : goal.returns-in-Err-clause-refused
returns-in-Err-clause-refused g c cause w at =
    let then_at = c.in-Err.ensures.refused cause w (kept_at g.D.Sectors w c.args.self.now at)
    (members_at g.D.Sectors w c.args.self.now at _ c.deref.ensures) in
    (then_at.0, then_at.1, is_at g.D.Sectors _ then_at.0 then_at.2.fine then_at.2.represents, λ k. inr (then_at.3 k))
