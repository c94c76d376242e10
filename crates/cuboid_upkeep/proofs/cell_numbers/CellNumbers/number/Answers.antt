use Rattle.std.proofs.Common.{◌≡◌, ◌∙◌, sym, subst, refl, Bool, true, false, Some}
use Rattle.std.specs.Option.{option_map}
use Rattle.cube_model.specs.declared.attr.Axis.TheVariants.{Customer, Supplier, Part, Date}
use Rattle.cuboid_cells.specs.Cells.{IsCellOf}
use Rattle.cuboid_upkeep.specs.CellNumbers.{AskedOfCells}
use Rattle.cuboid_upkeep.specs.Codes.{modes_of}
use Rattle.cuboid_upkeep.specs.MemberParts.{part_in}
use Rattle.cuboid_upkeep.proofs.Represented.{cell_number, customer_code, date_code, mode_of_cell, no_member}
use Rattle.cuboid_upkeep.proofs.Represented.{none_selected, part_code, supplier_code}
use Rattle.cuboid_upkeep.proofs.cell_numbers.CellNumbers.number.Goals as goal

pub returns-then-not-has_mode-clause-refused : goal.returns-then-not-has_mode-clause-refused
returns-then-not-has_mode-clause-refused c =
    let inside = c.self.inside in
    let asked : AskedOfCells =
    record {
      dimensions = inside.grouping.dimensions;
      query = inside.grouping.query;
      view = inside.view;
      modes = modes_of (option_map (λ modes. modes.now) inside.modes);
    } in
    let cell = c.args.cell.now in
    rw (← c.self.view_is) (λ row represents.
    let yes = c.has_mode.ensures.1 (mode_of_cell asked cell row represents) in
    absurd (cc (yes, c.if-not-has_mode.true)))

pub returns-in_default-clause-refused : goal.returns-in_default-clause-refused
returns-in_default-clause-refused c =
    let inside = c.self.inside in
    let asked : AskedOfCells =
    record {
      dimensions = inside.grouping.dimensions;
      query = inside.grouping.query;
      view = inside.view;
      modes = modes_of (option_map (λ modes. modes.now) inside.modes);
    } in
    let cell = c.args.cell.now in
    rw (← c.self.view_is) (λ row represents.
    no_member asked.dimensions asked.query Customer inside.view.customer inside.customers c.self.invariant.by_customer
    cell.key.customer (sym c.at.ensures ∙ c.in_default.is) row.custkey (customer_code asked cell row represents))

pub returns-in_default-at-clause-refused : goal.returns-in_default-at-clause-refused
returns-in_default-at-clause-refused c =
    let inside = c.self.inside in
    let asked : AskedOfCells =
    record {
      dimensions = inside.grouping.dimensions;
      query = inside.grouping.query;
      view = inside.view;
      modes = modes_of (option_map (λ modes. modes.now) inside.modes);
    } in
    let cell = c.args.cell.now in
    rw (← c.self.view_is) (λ row represents.
    no_member asked.dimensions asked.query Supplier inside.view.supplier inside.suppliers c.self.invariant.by_supplier
    cell.key.supplier (sym c.at-2.ensures ∙ c.in_default-at.is) row.suppkey
    (supplier_code asked cell row represents))

pub returns-in_default-at-2-clause-refused : goal.returns-in_default-at-2-clause-refused
returns-in_default-at-2-clause-refused c =
    let inside = c.self.inside in
    let asked : AskedOfCells =
    record {
      dimensions = inside.grouping.dimensions;
      query = inside.grouping.query;
      view = inside.view;
      modes = modes_of (option_map (λ modes. modes.now) inside.modes);
    } in
    let cell = c.args.cell.now in
    rw (← c.self.view_is) (λ row represents.
    no_member asked.dimensions asked.query Part inside.view.part inside.parts c.self.invariant.by_part cell.key.part
    (sym c.at-3.ensures ∙ c.in_default-at-2.is) row.partkey (part_code asked cell row represents))

pub returns-in_default-at-3-clause-refused : goal.returns-in_default-at-3-clause-refused
returns-in_default-at-3-clause-refused c =
    let inside = c.self.inside in
    let asked : AskedOfCells =
    record {
      dimensions = inside.grouping.dimensions;
      query = inside.grouping.query;
      view = inside.view;
      modes = modes_of (option_map (λ modes. modes.now) inside.modes);
    } in
    let cell = c.args.cell.now in
    rw (← c.self.view_is) (λ row represents.
    no_member asked.dimensions asked.query Date inside.view.date inside.dates c.self.invariant.by_date cell.key.date
    (sym c.at-4.ensures ∙ c.in_default-at-3.is) row.orderdate (date_code asked cell row represents))

pub returns-then-not-self-clause-ok : goal.returns-then-not-self-clause-ok
returns-then-not-self-clause-ok c =
    let inside = c.self.inside in
    let asked : AskedOfCells =
    record {
      dimensions = inside.grouping.dimensions;
      query = inside.grouping.query;
      view = inside.view;
      modes = modes_of (option_map (λ modes. modes.now) inside.modes);
    } in
    let cell = c.args.cell.now in
    let of_view = subst (λ (own : AskedOfCells). IsCellOf own.view cell) (sym c.self.view_is) c.requires in
    let passed : c.has_mode.result ≡ true =
    (elim c.has_mode.result as (λ (b : Bool). c.has_mode.result ≡ b → b ≡ true) [
      | true ↦ λ e. refl
      | false ↦ λ e. absurd (cc (e, c.if-not-has_mode.false))
    ]) refl in
    let there = c.has_mode.ensures.0 passed in
    let first : part_in inside.customers cell.key.customer ≡ Some c.in-Some.customer = sym c.at.ensures
    ∙ c.in-Some.is in
    let second : part_in inside.suppliers cell.key.supplier ≡ Some c.in-Some-at.supplier = sym c.at-2.ensures
    ∙ c.in-Some-at.is in
    let third : part_in inside.parts cell.key.part ≡ Some c.in-Some-at-2.part = sym c.at-3.ensures
    ∙ c.in-Some-at-2.is in
    let fourth : part_in inside.dates cell.key.date ≡ Some c.in-Some-at-3.date = sym c.at-4.ensures
    ∙ c.in-Some-at-3.is in
    rw (← c.self.view_is)
    (none_selected asked inside.within inside.customers inside.suppliers inside.parts inside.dates c.self.invariant
    cell of_view there
    c.in-Some.customer c.in-Some-at.supplier c.in-Some-at-2.part c.in-Some-at-3.date first second third fourth
    c.if-not-self.true)

pub returns-clause-ok : goal.returns-clause-ok
returns-clause-ok c =
    let inside = c.self.inside in
    let asked : AskedOfCells =
    record {
      dimensions = inside.grouping.dimensions;
      query = inside.grouping.query;
      view = inside.view;
      modes = modes_of (option_map (λ modes. modes.now) inside.modes);
    } in
    let cell = c.args.cell.now in
    let of_view = subst (λ (own : AskedOfCells). IsCellOf own.view cell) (sym c.self.view_is) c.requires in
    let passed : c.has_mode.result ≡ true =
    (elim c.has_mode.result as (λ (b : Bool). c.has_mode.result ≡ b → b ≡ true) [
      | true ↦ λ e. refl
      | false ↦ λ e. absurd (cc (e, c.if-not-has_mode.false))
    ]) refl in
    let there = c.has_mode.ensures.0 passed in
    let first : part_in inside.customers cell.key.customer ≡ Some c.in-Some.customer = sym c.at.ensures
    ∙ c.in-Some.is in
    let second : part_in inside.suppliers cell.key.supplier ≡ Some c.in-Some-at.supplier = sym c.at-2.ensures
    ∙ c.in-Some-at.is in
    let third : part_in inside.parts cell.key.part ≡ Some c.in-Some-at-2.part = sym c.at-3.ensures
    ∙ c.in-Some-at-2.is in
    let fourth : part_in inside.dates cell.key.date ≡ Some c.in-Some-at-3.date = sym c.at-4.ensures
    ∙ c.in-Some-at-3.is in
    rw (← c.self.view_is)
    (cell_number asked inside.within inside.customers inside.suppliers inside.parts inside.dates c.self.invariant
    cell of_view there
    c.in-Some.customer c.in-Some-at.supplier c.in-Some-at-2.part c.in-Some-at-3.date first second third fourth
    c.number_by.result c.if-not-self.false c.number_by.ensures)
