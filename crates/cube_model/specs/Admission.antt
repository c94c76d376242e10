-- Which batches of fact rows are admissible, and the first cause where one is not. Our own.
use Rattle.std.specs.Prelude.{◌≡◌, ℕ, ◌+◌, ◌^◌, ◌<◌, Bool, nat_lt, nat_le, is_none, Option, None, List, [], ◌∷◌, ◌++◌}
use Rattle.std.specs.Prelude.{length, nat_abs}
use Rattle.std.specs.List.{sum_by, flat_map}
use Rattle.cube_model.specs.declared.measure.Measure.{Measure}
use Rattle.cube_model.specs.declared.measure.Measure.TheVariants.{Quantity, ExtendedPrice, Revenue, SupplyCost}
use Rattle.cube_model.specs.declared.measure.Measure.TheVariants.{Discounted, Profit}
use Rattle.cube_model.specs.declared.fault.Fault.{Fault}
use Rattle.cube_model.specs.declared.fault.Fault.TheVariants.{Repeated, Gap, TooManyBatches, TooManyRows, FieldTooLong}
use Rattle.cube_model.specs.declared.fault.Fault.TheVariants.{UnknownCustomer, UnknownSupplier, UnknownPart}
use Rattle.cube_model.specs.declared.fault.Fault.TheVariants.{UnknownDate, SumRange}
use Rattle.cube_model.specs.declared.fault.MemberPlace.TheVariants.{InBatch}
use Rattle.cube_model.specs.declared.fault.Place.TheVariants.{Row}
use Rattle.cube_model.specs.declared.rows.DimRows.{DimRows}
use Rattle.cube_model.specs.declared.rows.LineOrder.{LineOrder}
use Rattle.cube_model.specs.Attributes.{customer_of, supplier_of, part_of, date_of}
use Rattle.cube_model.specs.Causes.{first_cause, cause_if}
use Rattle.cube_model.specs.Limits.{longest_text, most_batch_rows, most_batches}
use Rattle.cube_model.specs.Measures.{measure_of}
use Rattle.cube_model.specs.ShipModes.{modes_cause, modes_in}

-- a text is longer than a kept text may be
abbrev pub is_long : List ℕ → Bool
is_long text = nat_lt longest_text (length text)

-- the first text of a row that is too long, with its field in the table
abbrev pub long_field : ℕ → LineOrder → Option Fault
long_field number row = first_cause (
    cause_if (is_long row.orderpriority) (FieldTooLong (Row number) 7)
    ∷ cause_if (is_long row.shippriority) (FieldTooLong (Row number) 8)
    ∷ cause_if (is_long row.commitdate) (FieldTooLong (Row number) 16)
    ∷ cause_if (is_long row.shipmode) (FieldTooLong (Row number) 17) ∷ [])

-- the first such row. Rows are numbered from a number on
abbrev pub long_text : ℕ → List LineOrder → Option Fault
long_text number [] = None
long_text number (row ∷ rows) = first_cause (long_field number row ∷ long_text (number + 1) rows ∷ [])

-- the first dimension in which no row has the key of a fact row
abbrev pub unknown_axis : DimRows → ℕ → LineOrder → Option Fault
unknown_axis dimensions number row = first_cause (
    cause_if (is_none (customer_of dimensions row.custkey)) (UnknownCustomer number)
    ∷ cause_if (is_none (supplier_of dimensions row.suppkey)) (UnknownSupplier number)
    ∷ cause_if (is_none (part_of dimensions row.partkey)) (UnknownPart number)
    ∷ cause_if (is_none (date_of dimensions row.orderdate)) (UnknownDate number) ∷ [])

-- the first fact row with an unknown key. Rows are numbered from a number on
abbrev pub unknown_key : DimRows → ℕ → List LineOrder → Option Fault
unknown_key dimensions number [] = None
unknown_key dimensions number (row ∷ rows) =
    first_cause (unknown_axis dimensions number row ∷ unknown_key dimensions (number + 1) rows ∷ [])

-- the sum of a measure's absolute values
abbrev pub absolute_total : Measure → List LineOrder → ℕ
absolute_total measure rows = sum_by (λ row. nat_abs (measure_of measure row)) rows

-- no sum of absolute values passes 2 ^ 63 - 1. So no sum over some of the rows does
abbrev pub AreInRange : List LineOrder → Type 0
AreInRange rows = (measure : Measure) → absolute_total measure rows < 2 ^ 63

-- every key of the fact rows is in the dimensions
abbrev pub HaveKnownKeys : DimRows → List LineOrder → Type 0
HaveKnownKeys dimensions rows = unknown_key dimensions 1 rows ≡ None

-- a measure's sum passes the limit
abbrev pub sum_cause : List LineOrder → Measure → Option Fault
sum_cause rows measure = cause_if (nat_le (2 ^ 63) (absolute_total measure rows)) (SumRange measure)

-- the first measure whose sum does
abbrev pub sums_cause : List LineOrder → Option Fault
sums_cause rows = first_cause (
    sum_cause rows Quantity
    ∷ sum_cause rows ExtendedPrice
    ∷ sum_cause rows Revenue
    ∷ sum_cause rows SupplyCost
    ∷ sum_cause rows Discounted
    ∷ sum_cause rows Profit ∷ [])

-- batches put end to end
abbrev pub all_rows : List (List LineOrder) → List LineOrder
all_rows batches = flat_map (λ batch. batch) batches

-- the first cause that a batch with a number gives after earlier batches, its sums apart
abbrev pub early_refusal : DimRows → List (List LineOrder) → ℕ → List LineOrder → Option Fault
early_refusal dimensions batches number rows = first_cause (
    cause_if (nat_le number (length batches)) Repeated
    ∷ cause_if (nat_lt (length batches + 1) number) Gap
    ∷ cause_if (nat_le most_batches (length batches)) TooManyBatches
    ∷ cause_if (nat_lt most_batch_rows (length rows)) TooManyRows
    ∷ long_text 1 rows
    ∷ unknown_key dimensions 1 rows ∷ [])

-- the first cause for which a batch with a number is refused after earlier batches
abbrev pub refusal : DimRows → List (List LineOrder) → ℕ → List LineOrder → Option Fault
refusal dimensions batches number rows = first_cause (
    early_refusal dimensions batches number rows
    ∷ sums_cause (all_rows batches ++ rows) ∷ [])

-- the same where ship modes are the members of an axis
abbrev pub moded_refusal : DimRows → List (List LineOrder) → ℕ → List LineOrder → Option Fault
moded_refusal dimensions batches number rows = first_cause (
    early_refusal dimensions batches number rows
    ∷ modes_cause InBatch (modes_in (all_rows batches)) (modes_in rows)
    ∷ sums_cause (all_rows batches ++ rows) ∷ [])

-- a batch that is not refused
abbrev pub IsAdmissible : DimRows → List (List LineOrder) → ℕ → List LineOrder → Type 0
IsAdmissible dimensions batches number rows = refusal dimensions batches number rows ≡ None
