use Rattle.cube_model.specs.declared.attr.Axis.TheVariants.{Customer, Supplier, Part, Date}
use Rattle.group_numbers.proofs.sides.Sides.of.Goals as goal

pub returns : goal.returns
returns c = record {
  each = elim [
    | Customer ↦ c.in_ok-of.ensures.side
    | Supplier ↦ c.in_ok-of-2.ensures.side
    | Part ↦ c.in_ok-of-3.ensures.side
    | Date ↦ c.in_ok-of-4.ensures.side
  ];
  unused = elim [
    | Customer ↦ c.in_ok-of.ensures.unused
    | Supplier ↦ c.in_ok-of-2.ensures.unused
    | Part ↦ c.in_ok-of-3.ensures.unused
    | Date ↦ c.in_ok-of-4.ensures.unused
  ];
  used = elim [
    | Customer ↦ c.in_ok-of.ensures.used
    | Supplier ↦ c.in_ok-of-2.ensures.used
    | Part ↦ c.in_ok-of-3.ensures.used
    | Date ↦ c.in_ok-of-4.ensures.used
  ];
}
