use Rattle.std.proofs.Common.{◌≡◌, ◌∙◌, ◌++◌, ◌⊎◌, List, [], ap, arith, length, sym, subst}
use Rattle.std.proofs.lemmas.Bool.Decides.{nat_tests}
use Rattle.std.proofs.lemmas.List.{nil_from_length}
use Rattle.std.proofs.lemmas.Result.{err_from_is_err_and}
use Rattle.std.specs.Option.{option_map}
use Rattle.cube_model.specs.declared.fault.Fault.{Fault}
use Rattle.cube_model.specs.declared.rows.LineOrder.{LineOrder}
use Rattle.lattice.specs.declared.view.View.{View}
use Rattle.cuboid_cells.specs.Merges.{IsMergeFault, IsMergeOf}
use Rattle.cuboid_upkeep.specs.Codes.{modes_of}
use Rattle.cuboid_upkeep.specs.Grouping.{RepresentRows}
use Rattle.cuboid_upkeep.specs.Steps.{AreUnfit, IsAddFault}
use Rattle.cuboid_upkeep.proofs.Added.{batch_refused, both_represent, err_through, merge_of_none, merge_refused}
use Rattle.cuboid_upkeep.proofs.Added.{ok_through}
use Rattle.cuboid_upkeep.proofs.merging.merge_rows.Goals as goal

pub returns-in_err-batch-clause-refused : goal.returns-in_err-batch-clause-refused
returns-in_err-batch-clause-refused g c =
    let p = err_from_is_err_and c.from_residual.result c.from_residual.ensures.1 in
    let rows = g.F.FactRows.rows c.args.rows.now in
    let modes = modes_of (option_map (λ modes. modes.now) c.args.modes) in
    let why = subst (λ (view : View). (c.in_err-batch.field-0.0 ≡ Fault.Memory)
    ⊎ ((c.in_err-batch.field-0.0 ≡ Fault.BadLayout) × AreUnfit c.args.dims.now modes view rows))
    c.view.ensures.value c.in_err-batch.ensures.refused in
    rw (p.1, p.2)
    (λ so_far represent. batch_refused c.args.dims.now modes c.args.cells.now.view so_far rows c.in_err-batch.field-0.0
    why)

pub returns-then-is_empty-clause-ok : goal.returns-then-is_empty-clause-ok
returns-then-is_empty-clause-ok g c =
    let rows = g.F.FactRows.rows c.args.rows.now in
    let modes = modes_of (option_map (λ modes. modes.now) c.args.modes) in
    let batch = c.in_ok-batch.batch in
    let same : c.args.cells.now.view ≡ batch.view = sym (c.in_ok-batch.ensures.view ∙ c.view.ensures.value) in
    let zero : length c.as_slice.result.now ≡ 0 = grind (arith, nat_tests, c.is_empty.ensures, c.if-is_empty.true) in
    let none : c.args.cells.now.cells ≡ [] =
    nil_from_length c.args.cells.now.cells (ap length (sym c.as_slice.ensures.cells) ∙ zero) in
    λ so_far represent.
    both_represent c.args.dims.now modes so_far rows c.args.cells.now batch batch same represent
    c.in_ok-batch.ensures.ok
    (merge_of_none c.args.cells.now batch none same c.in_ok-batch.ensures.ok.ascending)

pub returns-clause-ok : goal.returns-clause-ok
returns-clause-ok g c =
    let rows = g.F.FactRows.rows c.args.rows.now in
    let modes = modes_of (option_map (λ modes. modes.now) c.args.modes) in
    let same : c.args.cells.now.view ≡ c.in_ok-batch.batch.view =
    sym (c.in_ok-batch.ensures.view ∙ c.view.ensures.value) in
    ok_through c.merge.result (IsMergeOf c.args.cells.now c.in_ok-batch.batch c.merge.new.self)
    ((so_far : List LineOrder) → RepresentRows c.args.dims.now modes so_far c.args.cells.now
    → RepresentRows c.args.dims.now modes (so_far ++ rows) c.merge.new.self)
    (λ merge so_far represent. both_represent c.args.dims.now modes so_far rows c.args.cells.now c.in_ok-batch.batch
    c.merge.new.self same represent c.in_ok-batch.ensures.ok merge)
    c.merge.ensures.ok

pub returns-clause-refused : goal.returns-clause-refused
returns-clause-refused g c =
    let rows = g.F.FactRows.rows c.args.rows.now in
    let modes = modes_of (option_map (λ modes. modes.now) c.args.modes) in
    let same : c.in_ok-batch.batch.view ≡ c.args.cells.now.view = c.in_ok-batch.ensures.view ∙ c.view.ensures.value in
    err_through c.merge.result (IsMergeFault c.args.cells.now c.in_ok-batch.batch)
    (λ fault. (so_far : List LineOrder) → RepresentRows c.args.dims.now modes so_far c.args.cells.now
    → IsAddFault c.args.dims.now modes c.args.cells.now.view (so_far ++ rows) fault)
    (λ fault why so_far represent. merge_refused c.args.dims.now modes c.args.cells.now.view so_far rows
    c.args.cells.now.cells c.in_ok-batch.batch.cells c.view.ensures.proper.fit represent
    (subst (λ (view : View). RepresentRows c.args.dims.now modes rows
    (record { view = view; cells = c.in_ok-batch.batch.cells })) same c.in_ok-batch.ensures.ok) fault why)
    c.merge.ensures.refused
