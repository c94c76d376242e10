use Rattle.std.proofs.Common.{◌≡◌, inl, sym, ◌∙◌, subst}
use Rattle.std.proofs.lemmas.Result.{IfErr-weaker}
use Rattle.cube_model.specs.declared.fault.Fault.{Fault}
use Rattle.cube_model.specs.declared.fault.Fault.TheVariants.{Device, TooManyCells}
use Rattle.warehouse_objects.proofs.Folded.{ok_so}
use Rattle.warehouse.specs.Upkeep.{UpkeepRefuses}
use Rattle.warehouse_jobs.proofs.CopyCauses.{of_upkeep, or_device, passed_over}
use Rattle.warehouse_jobs.proofs.copied_cuboids.bring_on.Goals as goal

pub returns-in-Ok-clause-ok : goal.returns-in-Ok-clause-ok
returns-in-Ok-clause-ok g c w at =
    let done = c.in-Ok.ensures.ok w at in
    (done.0, done.1, done.2, λ k. inl (done.3 k))

pub returns-in-Err-clause-ok : goal.returns-in-Err-clause-ok
returns-in-Err-clause-ok g c =
    ok_so _ _ c.unless_too_large.result (λ large w at.
    let done = c.in-Err.ensures.refused (λ device. let none : Device ≡ TooManyCells large.0 = sym device
    ∙ large.1 in absurd cc) w at in (
      done.0,
      done.1,
      done.2,
      λ k. passed_over g.E.Sectors c.upkeep.new.self done.0 c.in-Err.fault (done.3 k) large.0
          large.1,
    )) c.unless_too_large.ensures.passed

pub returns-in-Err-clause-refused : goal.returns-in-Err-clause-refused
returns-in-Err-clause-refused g c =
    IfErr-weaker c.unless_too_large.result _ _ (λ other is w at k.
    or_device other (λ no.
    let done = c.in-Err.ensures.refused (λ device. no (is.0 ∙ device)) w at in
    of_upkeep g.E.Sectors c.upkeep.new.self done.0 other
    (subst (λ (f : Fault). UpkeepRefuses g.E.Sectors c.upkeep.new.self done.0 f) (sym is.0) (done.3 k))
    (λ number large. is.1 number (sym is.0 ∙ large)))) c.unless_too_large.ensures.other
