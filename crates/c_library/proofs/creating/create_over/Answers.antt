use Rattle.std.proofs.Common.{◌∙◌, ap, subst, sym}
use Rattle.cube_model.specs.declared.fault.Fault.{Fault}
use Rattle.c_library.specs.Creating.{CreateRefuses}
use Rattle.journal_device.specs.JournalDisk.{calls_of}
use Rattle.warehouse.specs.Session.{device_of}
use Rattle.c_library.proofs.Ends.{creates, not_created}
use Rattle.journal_device.proofs.LawsLemmas.{prefix_is_left}
use Rattle.c_library.proofs.creating.create_over.Goals as goal

pub returns-in-Ok-clause-creates : goal.returns-in-Ok-clause-creates
returns-in-Ok-clause-creates g c =
    let image = g.O.Origin.image in
    let before = calls_of c.in-Some.device in
    let after = calls_of (device_of c.in-Ok.session) in (
      c.into_calls.ensures.within,
      creates prefix_is_left image before after c.into_calls.result.items c.in-Some.ensures.none_yet
          (c.into_calls.ensures.calls ∙ ap calls_of c.close.ensures) c.args.dims
          c.in-Ok.ensures.ok.at.all (λ blank. (c.in-Ok.ensures.ok.leaves blank).moments tt),
    )

pub returns-clause-refused : goal.returns-clause-refused
returns-clause-refused g c =
    let image = g.O.Origin.image in
    let before = calls_of c.in-Some.device in
    subst (λ (f : Fault). CreateRefuses image c.args.dims f) (sym c.named.ensures)
    (not_created image c.args.dims before c.in-Err.fault c.in-Some.ensures.none_yet c.in-Err.ensures.refused.causes
    (c.in-Err.ensures.refused.not_already tt) c.in-Err.ensures.refused.size c.in-Err.ensures.refused.full)
