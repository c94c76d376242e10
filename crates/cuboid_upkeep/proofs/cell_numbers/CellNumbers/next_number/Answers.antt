use Rattle.std.proofs.Common.{◌≡◌}
use Rattle.std.specs.Option.{option_map}
use Rattle.cuboid_upkeep.specs.CellNumbers.{AskedOfCells}
use Rattle.cuboid_upkeep.specs.Codes.{modes_of}
use Rattle.lattice.specs.declared.level.Level.TheVariants as level
use Rattle.cuboid_upkeep.proofs.Unwanted.{customer_unselected, date_unselected, part_unselected, supplier_unselected}
use Rattle.cuboid_upkeep.proofs.Unwanted.{unwanted_customer, unwanted_date, unwanted_part, unwanted_supplier}
use Rattle.cuboid_upkeep.proofs.cell_numbers.CellNumbers.next_number.Goals as goal

pub returns-then-not-is_all : goal.returns-then-not-is_all
returns-then-not-is_all c =
    let inside = c.self.inside in
    let asked : AskedOfCells = record {
      dimensions = inside.grouping.dimensions;
      query = inside.grouping.query;
      view = inside.view;
      modes =
          modes_of (option_map (λ modes. modes.now) inside.modes);
    } in
    let grouped : inside.view.customer ≡ level.All
    → ⊥ = λ is. let yes = c.is_all.ensures.1 is in absurd (cc (yes, c.if-not-is_all.true)) in
    rw (← c.self.view_is) (λ cell of_view fits high less row members key_is.
    unwanted_customer asked cell row members key_is inside.customers c.self.invariant.by_customer grouped
    (customer_unselected inside.view cell of_view fits inside.customers c.args.from c.next_number.result high less
    grouped c.next_number.ensures))

pub returns-then-not-is_all-2 : goal.returns-then-not-is_all-2
returns-then-not-is_all-2 c =
    let inside = c.self.inside in
    let asked : AskedOfCells = record {
      dimensions = inside.grouping.dimensions;
      query = inside.grouping.query;
      view = inside.view;
      modes =
          modes_of (option_map (λ modes. modes.now) inside.modes);
    } in
    let every_customer = c.is_all.ensures.0 c.if-not-is_all.false in
    let grouped : inside.view.supplier ≡ level.All
    → ⊥ = λ is. let yes = c.is_all-2.ensures.1 is in absurd (cc (yes, c.if-not-is_all-2.true)) in
    rw (← c.self.view_is) (λ cell of_view fits high less row members key_is.
    unwanted_supplier asked cell row members key_is inside.suppliers c.self.invariant.by_supplier grouped
    (supplier_unselected inside.view cell of_view fits inside.suppliers c.args.from
    c.next_number-then-not-is_all-2.result high less every_customer grouped c.next_number-then-not-is_all-2.ensures))

pub returns-then-not-is_all-3 : goal.returns-then-not-is_all-3
returns-then-not-is_all-3 c =
    let inside = c.self.inside in
    let asked : AskedOfCells = record {
      dimensions = inside.grouping.dimensions;
      query = inside.grouping.query;
      view = inside.view;
      modes =
          modes_of (option_map (λ modes. modes.now) inside.modes);
    } in
    let every_customer = c.is_all.ensures.0 c.if-not-is_all.false in
    let every_supplier = c.is_all-2.ensures.0 c.if-not-is_all-2.false in
    let grouped : inside.view.part ≡ level.All
    → ⊥ = λ is. let yes = c.is_all-3.ensures.1 is in absurd (cc (yes, c.if-not-is_all-3.true)) in
    rw (← c.self.view_is) (λ cell of_view fits high less row members key_is.
    unwanted_part asked cell row members key_is inside.parts c.self.invariant.by_part grouped
    (part_unselected inside.view cell of_view fits inside.parts c.args.from c.next_number-then-not-is_all-3.result high
    less every_customer every_supplier grouped c.next_number-then-not-is_all-3.ensures))

pub returns-then-not-is_all-4 : goal.returns-then-not-is_all-4
returns-then-not-is_all-4 c =
    let inside = c.self.inside in
    let asked : AskedOfCells = record {
      dimensions = inside.grouping.dimensions;
      query = inside.grouping.query;
      view = inside.view;
      modes =
          modes_of (option_map (λ modes. modes.now) inside.modes);
    } in
    let every_customer = c.is_all.ensures.0 c.if-not-is_all.false in
    let every_supplier = c.is_all-2.ensures.0 c.if-not-is_all-2.false in
    let every_part = c.is_all-3.ensures.0 c.if-not-is_all-3.false in
    let grouped : inside.view.date ≡ level.All
    → ⊥ = λ is. let yes = c.is_all-4.ensures.1 is in absurd (cc (yes, c.if-not-is_all-4.true)) in
    rw (← c.self.view_is) (λ cell of_view fits high less row members key_is.
    unwanted_date asked cell row members key_is inside.dates c.self.invariant.by_date grouped
    (date_unselected inside.view cell of_view fits inside.dates c.args.from c.next_number-then-not-is_all-4.result high
    less every_customer every_supplier every_part grouped c.next_number-then-not-is_all-4.ensures))
