use Rattle.std.proofs.lemmas.Result.{err_from_is_err_and}
use Rattle.std.proofs.Common.{ap, Bool, Err, subst, List, ◌∙◌}
use Rattle.warehouse_root.specs.Layouts.{has_modes}
use Rattle.warehouse_objects.specs.Warehouse.{with_views}
use Rattle.warehouse.specs.declared.chosen.Chosen.{Chosen}
use Rattle.warehouse.specs.Choosing.{ChooseRefuses, IsChoice}
use Rattle.ssb_reports.specs.Writing.{Writes}
use Rattle.warehouse_jobs.specs.Printed.{choice_text}
use Rattle.warehouse_jobs.proofs.Cuboids.{choose-refused, choose-written}
use Rattle.warehouse_jobs.proofs.choosing.choose.Goals as goal

pub returns-in_err-chosen-clause-chooses : goal.returns-in_err-chosen-clause-chooses
returns-in_err-chosen-clause-chooses g c w at k = record {
  ends = choose-refused g.D.Sectors w c.args.session.now c.choose.new.self (g.W.Write.contents c.args.out.now)
      (g.W.Write.contents c.args.out.now) (IsChoice w c.args.k)
      (ChooseRefuses g.D.Sectors c.args.session.now w c.args.k) _ _
      (λ e. (c.in_err-chosen.ensures.refused.calls.device (ap (λ f. Err f) e)).failed)
      (λ no. (c.in_err-chosen.ensures.causes no w at k, (c.in_err-chosen.ensures.refused.stays no w at).0))
      (err_from_is_err_and _ c.from_residual.ensures.1);
  leaves = c.choose.ensures.leaves w at;
}

pub returns-clause-chooses : goal.returns-clause-chooses
returns-clause-chooses g c w at k =
    let ok = c.in_ok-chosen.ensures.ok w at in record {
      ends = choose-written g.D.Sectors w c.args.session.now c.choose.new.self (g.W.Write.contents c.args.out.now)
          (g.W.Write.contents c.write_choice.new.out) (IsChoice w c.args.k)
          (ChooseRefuses g.D.Sectors c.args.session.now w c.args.k) c.in_ok-chosen.chosen.items c.write_choice.result
          (record { choice = ok.2 k; at = ok.0 })
          (subst (λ (b : Bool). Writes (g.W.Write.contents c.args.out.now) (g.W.Write.contents c.write_choice.new.out)
          c.write_choice.result (choice_text b c.in_ok-chosen.chosen.items))
          (c.has_ship_modes-ship_modes.ensures ∙ ap has_modes (c.layout.ensures (with_views w _) ok.0 k))
          (subst (λ (chosen : List Chosen). Writes (g.W.Write.contents c.args.out.now)
          (g.W.Write.contents c.write_choice.new.out) c.write_choice.result
          (choice_text c.has_ship_modes-ship_modes.result chosen))
          c.as_slice.ensures.value c.write_choice.ensures));
      leaves = c.choose.ensures.leaves w at;
    }
