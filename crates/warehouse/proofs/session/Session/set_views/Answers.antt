use Rattle.std.proofs.Common.{sym, ◌∙◌, refl, ℕ}
use Rattle.warehouse.proofs.Represented.{is_at}
use Rattle.warehouse_objects.specs.Warehouse.{with_views}
use Rattle.warehouse.proofs.Cuboids.{kept_at}
use Rattle.warehouse.proofs.SessionLemmas.{fine_before, untouched}
use Rattle.cube_model.specs.declared.fault.Fault.TheVariants.{Failed}
use Rattle.warehouse.proofs.session.Session.set_views.Goals as goal

pub invariant_of-self : goal.invariant_of-self
invariant_of-self g c = record {
  loaded = λ fine k.
      let s = c.args.self.now in
      c.set_views.ensures.loaded fine k s.dims.value s.modes
      (s.loaded (sym c.is_broken.ensures.broken ∙ c.if-is_broken.false) (c.set_views.ensures.calls.word k));
}

pub returns-in-Ok-clause-leaves : goal.returns-in-Ok-clause-leaves
returns-in-Ok-clause-leaves g c w at =
    c.set_views.ensures.leaves w (kept_at g.D.Sectors w c.args.self.now at)

pub returns-in-Err-clause-leaves : goal.returns-in-Err-clause-leaves
returns-in-Err-clause-leaves g c w at =
    c.set_views.ensures.leaves w (kept_at g.D.Sectors w c.args.self.now at)

pub returns-in-Ok-clause-ok : goal.returns-in-Ok-clause-ok
returns-in-Ok-clause-ok g c w at =
    let then_at =
    c.in-Ok.ensures.ok w (kept_at g.D.Sectors w c.args.self.now at) in
    (is_at g.D.Sectors _ (with_views w c.args.views.now) then_at.fine then_at.represents, c.in-Ok.ensures.once)

pub returns-in-Err-clause-causes : goal.returns-in-Err-clause-causes
returns-in-Err-clause-causes g c cause w at k =
    c.in-Err.ensures.causes cause w (kept_at g.D.Sectors w c.args.self.now at) k

pub returns-then-is_broken-clause-refused : goal.returns-then-is_broken-clause-refused
returns-then-is_broken-clause-refused g c =
    untouched g.D.Sectors {B = ℕ} Failed c.args.self.now c.is_broken.ensures.leaves
    (λ is. sym c.is_broken.ensures.broken ∙ c.if-is_broken.true, λ broken. refl) (λ is. cc)

pub returns-in-Ok-clause-refused : goal.returns-in-Ok-clause-refused
returns-in-Ok-clause-refused g c =
    fine_before g.D.Sectors _ c.args.self.now _ (sym c.is_broken.ensures.broken ∙ c.if-is_broken.false) tt tt (λ is. cc)
    (λ is. absurd cc) c.set_views.ensures.calls.word

pub returns-in-Err-clause-refused : goal.returns-in-Err-clause-refused
returns-in-Err-clause-refused g c =
    fine_before g.D.Sectors _ c.args.self.now _ (sym c.is_broken.ensures.broken ∙ c.if-is_broken.false)
    (λ cause w at.
    let then_at = c.in-Err.ensures.refused cause w (kept_at g.D.Sectors w c.args.self.now at) in
    (is_at g.D.Sectors _ w then_at.0.fine then_at.0.represents, then_at.1))
    (λ cause k. (c.in-Err.ensures.as_before cause).content)
    c.in-Err.ensures.calls.failed c.in-Err.ensures.calls.device c.set_views.ensures.calls.word
