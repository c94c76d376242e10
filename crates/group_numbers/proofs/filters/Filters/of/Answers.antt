use Rattle.cube_model.specs.declared.attr.Axis.TheVariants.{Customer, Supplier, Part, Date}
use Rattle.group_numbers.proofs.filters.Filters.of.Goals as goal

pub returns : goal.returns
returns c = elim [
  | Customer ↦ c.in_ok-filter_on.ensures
  | Supplier ↦ c.in_ok-filter_on-2.ensures
  | Part ↦ c.in_ok-filter_on-3.ensures
  | Date ↦ c.in_ok-filter_on-4.ensures
]
