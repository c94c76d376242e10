use Rattle.std.proofs.Common.{◌≡◌, ◌∙◌, sym, ap, subst, arith}
use Rattle.cube_model.specs.declared.attr.Axis.TheVariants.{Customer, Supplier, Part, Date}
use Rattle.cube_model.specs.declared.rows.DimRows.{DimRows}
use Rattle.group_numbers.specs.Numbers.{Asked}
use Rattle.group_numbers.proofs.Outcomes.{within_bounds}
use Rattle.cuboid_upkeep.specs.MemberParts.{AreParts}
use Rattle.cuboid_upkeep.proofs.cell_numbers.CellNumbers.of.Goals as goal

pub invariant_of-result : goal.invariant_of-result
invariant_of-result c =
    let grouping = c.over-grouping.result in
    let is : c.args.dims.now ≡ grouping.dimensions =
    sym (ap (λ (asked : Asked). asked.dimensions) c.over-grouping.ensures) in
    record {
      noughts = λ row quantity discount.
          within_bounds grouping.query row c.bounds.result c.bounds.ensures 0 0 (sym quantity) (sym discount)
          (omega arith)
          (omega arith) ∙ sym c.hold-within.ensures.value;
      by_customer =
          subst (λ (dims : DimRows). AreParts dims grouping.query Customer c.args.view.customer
          c.in_ok-customers.customers)
          is c.in_ok-customers.ensures.parts;
      by_supplier =
          subst (λ (dims : DimRows). AreParts dims grouping.query Supplier c.args.view.supplier
          c.in_ok-suppliers.suppliers)
          is c.in_ok-suppliers.ensures.parts;
      by_part = subst (λ (dims : DimRows). AreParts dims grouping.query Part c.args.view.part c.in_ok-parts.parts) is
          c.in_ok-parts.ensures.parts;
      by_date = subst (λ (dims : DimRows). AreParts dims grouping.query Date c.args.view.date c.in_ok-dates.dates) is
          c.in_ok-dates.ensures.parts;
    }
