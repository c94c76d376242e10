use Rattle.std.proofs.Common.{◌≡◌, ◌∙◌, Err, sym, subst, take, ◌<◌}
use Rattle.cube_model.specs.Admission.{all_rows}
use Rattle.cube_model.specs.declared.fault.Fault.TheVariants.{TooManyCells}
use Rattle.cuboid_upkeep.specs.Steps.{HaveTooMany}
use Rattle.lattice.specs.declared.view.View.{View}
use Rattle.lattice.specs.Views.{index_of}
use Rattle.warehouse_root.specs.Layouts.{view_count}
use Rattle.warehouse_objects.specs.Warehouse.{ship_modes_of}
use Rattle.stored_cuboids.proofs.Auditing.{is_grouping, not_too_many, which_large}
use Rattle.cuboid_upkeep.proofs.LawsLemmas.{cells_are_the_one}
use Rattle.stored_cuboids.proofs.audit.are_grouping.Goals as goal

pub returns-in-Ok-clause-answer : goal.returns-in-Ok-clause-answer
returns-in-Ok-clause-answer g c = λ k w laid rooted same within.
    let view : c.in-Ok.own.view ≡ c.args.cells.now.view = c.in-Ok.ensures.view ∙ c.view.ensures.value in
    let grouping = is_grouping cells_are_the_one w.rows (ship_modes_of w)
    (all_rows (take c.args.mark w.batches)) c.in-Ok.own c.args.cells.now view (c.in-Ok.ensures.ok k w laid same) in (
      λ is. grouping.0 (sym c.as_slice.ensures.cells ∙ c.are_same.ensures.0 is ∙ c.as_slice-in-Ok.ensures.cells),
      λ represent. c.are_same.ensures.1 (c.as_slice.ensures.cells ∙ grouping.1 represent
          ∙ sym c.as_slice-in-Ok.ensures.cells),
    )

pub returns-in-Err-TooManyCells-clause-answer : goal.returns-in-Err-TooManyCells-clause-answer
returns-in-Err-TooManyCells-clause-answer g c = λ k w laid rooted same within.
    let bad : c.cells_of_batches.result ≡ Err (TooManyCells c.in-Err-TooManyCells.field-0-0) = cc in
    let is = which_large c.cells_of_batches.result c.in-Err-TooManyCells.field-0-0 (index_of c.view.result) bad
    c.cells_of_batches.ensures.causes in
    let own : index_of c.view.result < view_count w.layout =
    subst (λ (v : View). index_of v < view_count w.layout) (sym c.view.ensures.value) within in
    let many : HaveTooMany w.rows (ship_modes_of w) c.args.cells.now.view (all_rows (take c.args.mark w.batches)) =
    subst (λ (v : View). HaveTooMany w.rows (ship_modes_of w) v (all_rows (take c.args.mark w.batches)))
    c.view.ensures.value (c.cells_of_batches.ensures.large is k w laid rooted same own) in (
      λ is. absurd cc,
      λ represent. absurd
          (not_too_many cells_are_the_one w.rows (ship_modes_of w) (all_rows (take c.args.mark w.batches))
          c.args.cells.now c.view.ensures.proper many represent),
    )
