use Rattle.std.proofs.Common.{◌∙◌, List, inr, subst}
use Rattle.warehouse.specs.Choosing.{IsChoice, ViewsRefuse}
use Rattle.warehouse.specs.Session.{disk_of}
use Rattle.warehouse.proofs.Choices.{leaves_chosen}
use Rattle.lattice.specs.declared.view.View.{View}
use Rattle.warehouse.proofs.SessionLemmas.{choice_or_not, fine_before, refused_again, untouched}
use Rattle.warehouse_objects.proofs.Folded.{err_fault}
use Rattle.cube_model.specs.declared.fault.Fault.TheVariants.{Device}
use Rattle.warehouse.proofs.session.Session.choose.Goals as goal

pub returns-in-Ok-set_views-clause-leaves : goal.returns-in-Ok-set_views-clause-leaves
returns-in-Ok-set_views-clause-leaves g c w at =
    leaves_chosen w (disk_of g.D.Sectors c.args.self.now) (disk_of g.D.Sectors c.set_views.new.self)
    (IsChoice w c.args.k) c.in-Ok.chosen.chosen.items c.as_slice.result.now
    (λ k. c.in-Ok.ensures.ok w at k) (c.as_slice.ensures.value ∙ c.in-Ok.ensures.views)
    (c.set_views.ensures.leaves w at)

pub returns-in-Err-set_views-clause-leaves : goal.returns-in-Err-set_views-clause-leaves
returns-in-Err-set_views-clause-leaves g c w at =
    leaves_chosen w (disk_of g.D.Sectors c.args.self.now) (disk_of g.D.Sectors c.set_views.new.self)
    (IsChoice w c.args.k) c.in-Ok.chosen.chosen.items c.as_slice.result.now
    (λ k. c.in-Ok.ensures.ok w at k) (c.as_slice.ensures.value ∙ c.in-Ok.ensures.views)
    (c.set_views.ensures.leaves w at)

pub returns-in-Err-set_views-clause-causes : goal.returns-in-Err-set_views-clause-causes
returns-in-Err-set_views-clause-causes g c other w at k =
    let views = c.as_slice.ensures.value ∙ c.in-Ok.ensures.views in
    inr (inr (
      c.in-Ok.chosen.chosen.items,
      c.in-Ok.ensures.ok w at (c.set_views.ensures.refused.calls.word k),
      subst (λ (l : List View). ViewsRefuse g.D.Sectors c.args.self.now w l c.in-Err-set_views.fault) views
          (c.in-Err-set_views.ensures.causes other w at k),
    ))

pub returns-in-Err-clause-refused : goal.returns-in-Err-clause-refused
returns-in-Err-clause-refused g c =
    let fault = c.in-Err.fault in
    untouched g.D.Sectors fault c.args.self.now c.in-Err.ensures.leaves c.in-Err.ensures.failed
    (λ is. choice_or_not fault c.in-Err.ensures.causes (err_fault fault Device is))

pub returns-in-Ok-set_views-clause-refused : goal.returns-in-Ok-set_views-clause-refused
returns-in-Ok-set_views-clause-refused g c =
    fine_before g.D.Sectors _ c.args.self.now c.set_views.new.self c.in-Ok.ensures.fine tt tt (λ is. cc)
    (λ is. absurd cc) c.set_views.ensures.refused.calls.word

pub returns-in-Err-set_views-clause-refused : goal.returns-in-Err-set_views-clause-refused
returns-in-Err-set_views-clause-refused g c =
    refused_again g.D.Sectors c.in-Err-set_views.fault c.args.self.now c.set_views.new.self
    c.in-Err-set_views.ensures.refused
