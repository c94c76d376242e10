-- Rows of dimensions followed by others, and the first cause to refuse the others. Our own.
use Rattle.std.specs.Prelude.{ℕ, ◌-◌, Option, List, [], ◌∷◌, ◌++◌, length}
use Rattle.std.specs.Option.{option_map}
use Rattle.cube_model.specs.declared.fault.Fault.{Fault}
use Rattle.cube_model.specs.declared.fault.Fault.TheVariants.{DuplicateKey, HierarchyBroken, ReservedMember}
use Rattle.cube_model.specs.declared.fault.Fault.TheVariants.{TooManyMembers}
use Rattle.cube_model.specs.declared.fault.MemberPlace.TheVariants.{InDimension}
use Rattle.cube_model.specs.declared.rows.DimRows.{DimRows}
use Rattle.cube_model.specs.Causes.{first_cause}
use Rattle.cube_model.specs.Validity.{Rules, customer_rules, supplier_rules, part_rules, date_rules, dimension_cause}

-- the rows of each dimension, and then others
abbrev pub joined : DimRows → DimRows → DimRows
joined old new = record {
  customers = old.customers ++ new.customers;
  suppliers = old.suppliers ++ new.suppliers;
  parts = old.parts ++ new.parts;
  dates = old.dates ++ new.dates;
}

-- a fault whose row counts from the first one after so many
abbrev pub counted_after : ℕ → Fault → Fault
counted_after count (DuplicateKey axis row) = DuplicateKey axis (row - count)
counted_after count (HierarchyBroken axis row) = HierarchyBroken axis (row - count)
counted_after count (ReservedMember (InDimension axis row)) = ReservedMember (InDimension axis (row - count))
counted_after count (TooManyMembers (InDimension axis row)) = TooManyMembers (InDimension axis (row - count))
counted_after count fault = fault

-- The first cause to refuse a dimension's rows followed by others. Rows count from 1 among the others.
abbrev pub added_cause : {Row : Type 0} → Rules Row → List Row → List Row → Option Fault
added_cause rules old new = option_map (counted_after (length old)) (dimension_cause rules (old ++ new))

-- the same of the four dimensions: customer, supplier, part, date
abbrev pub addition_cause : DimRows → DimRows → Option Fault
addition_cause old new = first_cause (
    added_cause customer_rules old.customers new.customers
    ∷ added_cause supplier_rules old.suppliers new.suppliers
    ∷ added_cause part_rules old.parts new.parts
    ∷ added_cause date_rules old.dates new.dates ∷ [])
