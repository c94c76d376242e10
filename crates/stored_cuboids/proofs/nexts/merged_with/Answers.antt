use Rattle.std.proofs.Common.{◌≡◌, ◌++◌, take, sym, ◌∙◌, subst}
use Rattle.cube_model.specs.Admission.{all_rows}
use Rattle.lattice.specs.Views.{index_of}
use Rattle.lattice.specs.declared.view.View.{View}
use Rattle.lattice.proofs.Places.{one_view}
use Rattle.cuboid_upkeep.specs.Steps.{HaveTooMany}
use Rattle.warehouse_objects.specs.Warehouse.{ship_modes_of}
use Rattle.stored_cuboids.proofs.NextsLemmas.{large_of, not_merged, unfit_of}
use Rattle.cuboid_upkeep.proofs.LawsLemmas.{merges_represent_both, rows_in_range_fit}
use Rattle.stored_cuboids.proofs.nexts.merged_with.Goals as goal

pub merge-requires : goal.merge-requires
merge-requires g c =
    record { view = one_view c.args.tail.now.view c.in-Ok.cells.view (c.requires.view ∙ sym c.in-Ok.ensures.view) }

pub returns-in-Ok-merge-clause-view : goal.returns-in-Ok-merge-clause-view
returns-in-Ok-merge-clause-view g c = c.in-Ok-merge.ensures.ok.view
    ∙ one_view c.in-Ok.cells.view c.args.tail.now.view (c.in-Ok.ensures.view ∙ sym c.requires.view)

pub returns-in-Ok-merge-clause-ok : goal.returns-in-Ok-merge-clause-ok
returns-in-Ok-merge-clause-ok g c k w stored rows represents found said represent =
    merges_represent_both w.rows (ship_modes_of w) (all_rows (take c.args.cuboid.mark w.batches)) rows
    c.in-Ok.cells c.args.tail.now c.merge.new.self
    (one_view c.in-Ok.cells.view c.args.tail.now.view (c.in-Ok.ensures.view ∙ sym c.requires.view))
    (c.in-Ok.ensures.grouping k w stored represents found said) represent c.in-Ok-merge.ensures.ok

pub returns-in-Err-merge-clause-large : goal.returns-in-Err-merge-clause-large
returns-in-Err-merge-clause-large g c is k w stored rows represents found said represent =
    let same : c.args.tail.now.view ≡ c.in-Ok.cells.view =
    one_view c.args.tail.now.view c.in-Ok.cells.view (c.requires.view ∙ sym c.in-Ok.ensures.view) in
    let all = all_rows (take c.args.cuboid.mark w.batches) ++ rows in
    subst (λ (v : View). HaveTooMany w.rows (ship_modes_of w) v all) (sym same)
    (large_of w.rows (ship_modes_of w) c.in-Ok.cells.view all c.in-Err-merge.fault (index_of c.args.tail.now.view) is
    (not_merged rows_in_range_fit w.rows (ship_modes_of w) c.in-Ok.cells c.args.tail.now
    (all_rows (take c.args.cuboid.mark w.batches)) rows c.in-Err-merge.fault same c.merge.ensures.before.0
    (c.in-Ok.ensures.grouping k w stored represents found said) represent c.in-Err-merge.ensures.refused))

pub returns-in-Err-merge-clause-refused : goal.returns-in-Err-merge-clause-refused
returns-in-Err-merge-clause-refused g c is k w stored rows represents found said represent in_range few =
    let same : c.args.tail.now.view ≡ c.in-Ok.cells.view =
    one_view c.args.tail.now.view c.in-Ok.cells.view (c.requires.view ∙ sym c.in-Ok.ensures.view) in
    unfit_of w.rows (ship_modes_of w) c.in-Ok.cells.view (all_rows (take c.args.cuboid.mark w.batches) ++ rows)
    c.in-Err-merge.fault is
    (not_merged rows_in_range_fit w.rows (ship_modes_of w) c.in-Ok.cells c.args.tail.now
    (all_rows (take c.args.cuboid.mark w.batches)) rows c.in-Err-merge.fault same c.merge.ensures.before.0
    (c.in-Ok.ensures.grouping k w stored represents found said) represent c.in-Err-merge.ensures.refused) in_range few
