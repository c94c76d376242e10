-- No cause to refuse a batch, or rows of dimensions, speaks of the device.
use Rattle.std.proofs.Common.{◌≡◌, ℕ, ◌+◌, ◌^◌, Bool, true, false, Option, Some, None, List, [], ◌∷◌, ◌++◌, is_none}
use Rattle.std.proofs.Common.{nat_le, nat_lt, length, refl, subst, ◌∙◌, ◌⊎◌, inl, inr}
use Rattle.std.specs.Option.{option_map}
use Rattle.cube_model.specs.declared.fault.Fault.{Fault}
use Rattle.cube_model.specs.declared.fault.Fault.TheVariants.{Device, Repeated, Gap, TooManyBatches, TooManyRows}
use Rattle.cube_model.specs.declared.fault.Fault.TheVariants.{FieldTooLong, UnknownCustomer, UnknownSupplier}
use Rattle.cube_model.specs.declared.fault.Fault.TheVariants.{UnknownPart, UnknownDate, SumRange, DuplicateKey}
use Rattle.cube_model.specs.declared.fault.Fault.TheVariants.{HierarchyBroken, ReservedMember, TooManyMembers}
use Rattle.cube_model.specs.declared.fault.MemberPlace.TheVariants.{InBatch, InDimension}
use Rattle.cube_model.specs.declared.fault.Place.TheVariants.{Row}
use Rattle.cube_model.specs.declared.measure.Measure.{Measure}
use Rattle.cube_model.specs.declared.measure.Measure.TheVariants.{Quantity, ExtendedPrice, Revenue, SupplyCost}
use Rattle.cube_model.specs.declared.measure.Measure.TheVariants.{Discounted, Profit}
use Rattle.cube_model.specs.declared.rows.DimRows.{DimRows}
use Rattle.cube_model.specs.declared.rows.LineOrder.{LineOrder}
use Rattle.cube_model.specs.Admission.{all_rows, refusal, is_long, long_field, long_text, unknown_axis, unknown_key}
use Rattle.cube_model.specs.Admission.{early_refusal, sum_cause, sums_cause, absolute_total}
use Rattle.cube_model.specs.Attributes.{customer_of, supplier_of, part_of, date_of}
use Rattle.cube_model.specs.Causes.{first_cause, cause_if}
use Rattle.cube_model.specs.Limits.{most_batch_rows, most_batches}
use Rattle.cube_model.specs.ShipModes.{crowded_place, modes_cause, modes_in, reserved_place}
use Rattle.cube_model.specs.Validity.{Rules, breaks_link, customer_rules, date_rules, dimension_cause, names_all}
use Rattle.cube_model.specs.Validity.{overflows, part_rules, repeats_key, row_cause, rows_cause, supplier_rules}
use Rattle.dimensions.specs.Added.{added_cause, addition_cause, counted_after}
use Rattle.warehouse_root.specs.declared.layout.Layout.{Layout}
use Rattle.warehouse_root.specs.declared.layout.Layout.TheVariants.{First, Second}
use Rattle.warehouse_objects.specs.Facts.{refusal_in}
use Rattle.warehouse.specs.Refusing.{is_of_device}

abbrev pub IsApart : Option Fault → Type 0
IsApart None = Unit {0}
IsApart (Some fault) = is_of_device fault ≡ false

so_if : (test : Bool) (fault : Fault) → is_of_device fault ≡ false → IsApart (cause_if test fault)
so_if true fault e = e
so_if false fault e = tt

then : (cause : Option Fault) (causes : List (Option Fault)) → IsApart cause → IsApart (first_cause causes)
    → IsApart (first_cause (cause ∷ causes))
then None causes first rest = rest
then (Some fault) causes first rest = first

row_texts : (number : ℕ) (row : LineOrder) → IsApart (long_field number row)
row_texts number row =
    then _ _ (so_if (is_long row.orderpriority) (FieldTooLong (Row number) 7) refl)
    (then _ _ (so_if (is_long row.shippriority) (FieldTooLong (Row number) 8) refl)
    (then _ _ (so_if (is_long row.commitdate) (FieldTooLong (Row number) 16) refl)
    (then _ _ (so_if (is_long row.shipmode) (FieldTooLong (Row number) 17) refl) tt)))

texts : (number : ℕ) (rows : List LineOrder) → IsApart (long_text number rows)
texts number [] = tt
texts number (row ∷ rows) =
    then (long_field number row) _ (row_texts number row)
    (then (long_text (number + 1) rows) [] (texts (number + 1) rows) tt)

row_keys : (dimensions : DimRows) (number : ℕ) (row : LineOrder) → IsApart (unknown_axis dimensions number row)
row_keys dimensions number row =
    then _ _ (so_if (is_none (customer_of dimensions row.custkey)) (UnknownCustomer number) refl)
    (then _ _ (so_if (is_none (supplier_of dimensions row.suppkey)) (UnknownSupplier number) refl)
    (then _ _ (so_if (is_none (part_of dimensions row.partkey)) (UnknownPart number) refl)
    (then _ _ (so_if (is_none (date_of dimensions row.orderdate)) (UnknownDate number) refl) tt)))

keys : (dimensions : DimRows) (number : ℕ) (rows : List LineOrder) → IsApart (unknown_key dimensions number rows)
keys dimensions number [] = tt
keys dimensions number (row ∷ rows) =
    then (unknown_axis dimensions number row) _ (row_keys dimensions number row)
    (then (unknown_key dimensions (number + 1) rows) [] (keys dimensions (number + 1) rows) tt)

total : (rows : List LineOrder) (measure : Measure) → IsApart (sum_cause rows measure)
total rows measure = so_if (nat_le (2 ^ 63) (absolute_total measure rows)) (SumRange measure) refl

totals : (rows : List LineOrder) → IsApart (sums_cause rows)
totals rows =
    then _ _ (total rows Quantity) (then _ _ (total rows ExtendedPrice) (then _ _ (total rows Revenue)
    (then _ _ (total rows SupplyCost) (then _ _ (total rows Discounted) (then _ _ (total rows Profit) tt)))))

early : (dimensions : DimRows) (batches : List (List LineOrder)) (number : ℕ) (rows : List LineOrder)
    → IsApart (early_refusal dimensions batches number rows)
early dimensions batches number rows =
    then _ _ (so_if (nat_le number (length batches)) Repeated refl)
    (then _ _ (so_if (nat_lt (length batches + 1) number) Gap refl)
    (then _ _ (so_if (nat_le most_batches (length batches)) TooManyBatches refl)
    (then _ _ (so_if (nat_lt most_batch_rows (length rows)) TooManyRows refl)
    (then _ _ (texts 1 rows) (then _ _ (keys dimensions 1 rows) tt)))))

refusals : (dimensions : DimRows) (batches : List (List LineOrder)) (number : ℕ) (rows : List LineOrder)
    → IsApart (refusal dimensions batches number rows)
refusals dimensions batches number rows =
    then (early_refusal dimensions batches number rows) _ (early dimensions batches number rows)
    (then _ _ (totals (all_rows batches ++ rows)) tt)

pub early_apart : (dimensions : DimRows) (batches : List (List LineOrder)) (number : ℕ) (rows : List LineOrder)
    (fault : Fault) → early_refusal dimensions batches number rows ≡ Some fault → is_of_device fault ≡ false
early_apart dimensions batches number rows fault e = subst IsApart e (early dimensions batches number rows)

at_place : (make : ℕ → Fault) → ((place : ℕ) → is_of_device (make place) ≡ false) → (found : Option ℕ)
    → IsApart (option_map make found)
at_place make apart None = tt
at_place make apart (Some place) = apart place

of_modes : (earlier more : List (List ℕ)) → IsApart (modes_cause InBatch earlier more)
of_modes earlier more =
    then _ _ (at_place (λ place. ReservedMember (InBatch (place + 1))) (λ place. refl) (reserved_place more))
    (then _ _ (at_place (λ place. TooManyMembers (InBatch (place + 1))) (λ place. refl) (crowded_place earlier more))
    tt)

pub modes_apart : (earlier more : List (List ℕ)) (fault : Fault) → modes_cause InBatch earlier more ≡ Some fault
    → is_of_device fault ≡ false
modes_apart earlier more fault e = subst IsApart e (of_modes earlier more)

pub refusal_apart : (dimensions : DimRows) (batches : List (List LineOrder)) (number : ℕ) (rows : List LineOrder)
    (fault : Fault) → refusal dimensions batches number rows ≡ Some fault → is_of_device fault ≡ false
refusal_apart dimensions batches number rows fault e = subst IsApart e (refusals dimensions batches number rows)

in_layout : (layout : Layout) (dimensions : DimRows) (batches : List (List LineOrder)) (number : ℕ)
    (rows : List LineOrder) → IsApart (refusal_in layout dimensions batches number rows)
in_layout First dimensions batches number rows = refusals dimensions batches number rows
in_layout Second dimensions batches number rows =
    then (early_refusal dimensions batches number rows) _ (early dimensions batches number rows)
    (then _ _ (of_modes (modes_in (all_rows batches)) (modes_in rows))
    (then _ _ (totals (all_rows batches ++ rows)) tt))

pub refused_apart : (layout : Layout) (dimensions : DimRows) (batches : List (List LineOrder)) (number : ℕ)
    (rows : List LineOrder) (fault : Fault) → refusal_in layout dimensions batches number rows ≡ Some fault
    → is_of_device fault ≡ false
refused_apart layout dimensions batches number rows fault e =
    subst IsApart e (in_layout layout dimensions batches number rows)

-- ---- rows of dimensions

module _ {Row : Type 0} (rules : Rules Row) where
  row_apart : (earlier : List Row) (row : Row) → IsApart (row_cause rules earlier row)
  row_apart earlier row =
      then _ _ (so_if (repeats_key rules earlier row) (DuplicateKey rules.axis (length earlier + 1)) refl)
      (then _ _ (so_if (names_all rules row) (ReservedMember (InDimension rules.axis (length earlier + 1))) refl)
      (then _ _ (so_if (overflows rules earlier row) (TooManyMembers (InDimension rules.axis (length earlier + 1)))
      refl)
      (then _ _ (so_if (breaks_link rules earlier row) (HierarchyBroken rules.axis (length earlier + 1)) refl) tt)))

  rows_apart : (earlier rows : List Row) → IsApart (rows_cause rules earlier rows)
  rows_apart earlier [] = tt
  rows_apart earlier (row ∷ rows) =
      then (row_cause rules earlier row) _ (row_apart earlier row)
      (then (rows_cause rules (earlier ++ row ∷ []) rows) [] (rows_apart (earlier ++ row ∷ []) rows) tt)

  dimension_apart : (rows : List Row) → IsApart (dimension_cause rules rows)
  dimension_apart rows =
      then _ _ (so_if (nat_lt rules.row_limit (length rows)) TooManyRows refl)
      (then (rows_cause rules [] rows) [] (rows_apart [] rows) tt)

  added_apart : (old new : List Row) → IsApart (added_cause rules old new)
  added_apart old new = by (dimension_cause rules (old ++ new)) (dimension_apart (old ++ new))
    where
      counted_apart : (fault : Fault) → is_of_device (counted_after (length old) fault) ≡ is_of_device fault
      counted_apart (DuplicateKey axis row) = refl
      counted_apart (HierarchyBroken axis row) = refl
      counted_apart (ReservedMember (InDimension axis row)) = refl
      counted_apart (TooManyMembers (InDimension axis row)) = refl
      counted_apart fault = refl

      by : (cause : Option Fault) → IsApart cause → IsApart (option_map (counted_after (length old)) cause)
      by None apart = tt
      by (Some fault) apart = counted_apart fault ∙ apart

pub addition_apart : (old new : DimRows) (fault : Fault) → addition_cause old new ≡ Some fault
    → is_of_device fault ≡ false
addition_apart old new fault e =
    subst IsApart e
    (then _ _ (added_apart customer_rules old.customers new.customers)
    (then _ _ (added_apart supplier_rules old.suppliers new.suppliers)
    (then _ _ (added_apart part_rules old.parts new.parts)
    (then _ _ (added_apart date_rules old.dates new.dates) tt))))

pub device_or : (fault : Fault) → (fault ≡ Device) ⊎ (fault ≡ Device → ⊥)
device_or Device = inl refl
device_or fault = inr (λ e. cc)
