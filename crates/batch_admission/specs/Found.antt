-- What is found in the rows of a batch, which may refuse it. Our own.
use Rattle.std.specs.Prelude.{Bool, ℕ, ◌+◌, List, [], ◌∷◌, length, is_none, Option}
use Rattle.cube_model.specs.declared.attr.Axis.{Axis}
use Rattle.cube_model.specs.declared.attr.Axis.TheVariants.{Customer, Supplier, Part, Date}
use Rattle.cube_model.specs.declared.fault.Fault.{Fault}
use Rattle.cube_model.specs.declared.rows.DimRows.{DimRows}
use Rattle.cube_model.specs.declared.rows.LineOrder.{LineOrder}
use Rattle.cube_model.specs.Admission.{long_text, unknown_key, long_field, unknown_axis}
use Rattle.cube_model.specs.Attributes.{customer_of, supplier_of, part_of, date_of}
use Rattle.cube_model.specs.Causes.{first_cause}
use Rattle.cube_model.specs.declared.totals.Totals.{Totals}
use Rattle.batch_admission.specs.Totals.{plus_rows, plus_row, totals_cause}

-- no row of a dimension has a key
abbrev pub lacks : DimRows → Axis → ℕ → Bool
lacks dimensions Customer key = is_none (customer_of dimensions key)
lacks dimensions Supplier key = is_none (supplier_of dimensions key)
lacks dimensions Part key = is_none (part_of dimensions key)
lacks dimensions Date key = is_none (date_of dimensions key)

-- of some rows of a batch: their number, the first text that is too long, the first unknown key, and the totals with
-- those of the batches before it
pub record Found : Type 0 where
  pub row_count : ℕ
  pub long_text : Option Fault
  pub unknown_key : Option Fault
  pub totals : Totals

-- what is found in rows, after batches with some totals
abbrev pub found_in : DimRows → Totals → List LineOrder → Found
found_in dimensions totals rows = record {
  row_count = length rows;
  long_text = long_text 1 rows;
  unknown_key = unknown_key dimensions 1 rows;
  totals = plus_rows totals rows;
}

-- what is found with one more row
abbrev pub found_with : DimRows → Found → LineOrder → Found
found_with dimensions found row = record {
  row_count = found.row_count + 1;
  long_text = first_cause (found.long_text ∷ long_field (found.row_count + 1) row ∷ []);
  unknown_key = first_cause (found.unknown_key ∷ unknown_axis dimensions (found.row_count + 1) row ∷ []);
  totals = plus_row found.totals row;
}

-- the first cause that was found
abbrev pub cause_of : Found → Option Fault
cause_of found = first_cause (found.long_text ∷ found.unknown_key ∷ totals_cause found.totals ∷ [])
