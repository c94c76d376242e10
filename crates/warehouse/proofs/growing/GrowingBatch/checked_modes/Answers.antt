use Rattle.std.proofs.Common.{◌≡◌, sym, ◌∙◌, ap}
use Rattle.cube_model.specs.Admission.{all_rows}
use Rattle.warehouse_root.specs.declared.layout.Layout.{Layout}
use Rattle.warehouse_root.specs.declared.layout.Layout.TheVariants.{Second}
use Rattle.warehouse_root.specs.Modes.{kept_modes}
use Rattle.warehouse_root.specs.Root.{PlainRoot}
use Rattle.warehouse.proofs.GrowingLemmas.{modes_checked}
use Rattle.warehouse.proofs.growing.GrowingBatch.checked_modes.Goals as goal

pub returns-in_ok-check_early-in-Second-clause-model : goal.returns-in_ok-check_early-in-Second-clause-model
returns-in_ok-check_early-in-Second-clause-model c = λ w rows root_is modes_are grown.
    let second : w.layout ≡ Second =
    ap (λ (r : PlainRoot). r.layout) root_is ∙ sym c.layout.ensures.value ∙ c.in-Second.is in
    modes_checked w c.args.number rows second c.more_modes.result
    (c.in_ok-check_early-in-Second.ensures.model w rows root_is grown)
    (c.more_modes.ensures.model w.rows c.args.root.now (all_rows w.batches) rows grown
    (modes_are ∙ ap (λ (l : Layout). kept_modes l (all_rows w.batches)) second))
