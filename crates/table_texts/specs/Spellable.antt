-- The rows that the lines of a table can spell.
use Rattle.std.specs.Prelude.{◌≡◌, ℕ, ◌-◌, ◌^◌, ◌==◌, ◌&&◌, not, nat_le, nat_lt, Bool, true, false, List, [], ◌∷◌}
use Rattle.std.specs.Prelude.{Option, length, slice_index, Result, Err}
use Rattle.std.specs.List.{list_all}
use Rattle.std.specs.Io.KnownBytes.{Keeps}
use Rattle.cube_model.specs.declared.fault.Fault.{Fault}
use Rattle.cube_model.specs.declared.fault.Fault.TheVariants.{BadLayout}
use Rattle.cube_model.specs.declared.attr.Axis.{Axis}
use Rattle.cube_model.specs.declared.attr.Axis.TheVariants.{Customer, Supplier, Part, Date}
use Rattle.cube_model.specs.declared.rows.CustomerRow.{CustomerRow}
use Rattle.cube_model.specs.declared.rows.SupplierRow.{SupplierRow}
use Rattle.cube_model.specs.declared.rows.PartRow.{PartRow}
use Rattle.cube_model.specs.declared.rows.DateRow.{DateRow}
use Rattle.cube_model.specs.declared.rows.DimRows.{DimRows}
use Rattle.cube_model.specs.declared.rows.LineOrder.{LineOrder}
use Rattle.cube_model.specs.Limits.{longest_text}
use Rattle.ssb_reports.specs.Writing.{Writes}
use Rattle.table_texts.specs.declared.cell.Cell.{Cell}
use Rattle.table_texts.specs.declared.cell.Cell.TheVariants.{Number, Text}

-- neither a bar (124) nor a line feed (10)
abbrev pub is_plain_byte : ℕ → Bool
is_plain_byte byte = not (byte == 124) && not (byte == 10)

-- a text that a field can hold: at most 255 bytes, all of them plain
abbrev pub is_field_text : List ℕ → Bool
is_field_text text = nat_le (length text) longest_text && list_all is_plain_byte text

-- a text ends with a carriage return (13), which a reader would drop at the end of a line
abbrev pub ends_in_cr : List ℕ → Bool
ends_in_cr text = nat_lt 0 (length text) && (slice_index text (length text - 1) == 13)

-- the keys of a fact row are in the ranges of their columns
abbrev pub has_keys_in_range : LineOrder → Bool
has_keys_in_range row =
    nat_lt row.orderkey (2 ^ 63) && (nat_lt row.linenumber (2 ^ 32) && (nat_lt row.custkey (2 ^ 32)
    && (nat_lt row.partkey (2 ^ 32) && (nat_lt row.suppkey (2 ^ 32) && nat_lt row.orderdate (2 ^ 32)))))

-- so are its other numbers
abbrev pub has_figures_in_range : LineOrder → Bool
has_figures_in_range row =
    nat_lt row.quantity (2 ^ 8) && (nat_lt row.extendedprice (2 ^ 63) && (nat_lt row.ordtotalprice (2 ^ 63)
    && (nat_lt row.discount (2 ^ 8) &&
    (nat_lt row.revenue (2 ^ 63) && (nat_lt row.supplycost (2 ^ 63) && nat_lt row.tax (2 ^ 8))))))

-- fields can hold its texts
abbrev pub has_plain_texts : LineOrder → Bool
has_plain_texts row =
    list_all is_field_text (row.orderpriority ∷ row.shippriority ∷ row.commitdate ∷ row.shipmode ∷ [])

-- a line can spell the texts of a fact row, of which the ship mode is the last field
abbrev pub has_field_texts : LineOrder → Bool
has_field_texts row = has_plain_texts row && not (ends_in_cr row.shipmode)

-- a line can spell a fact row
abbrev pub is_spellable : LineOrder → Bool
is_spellable row = has_keys_in_range row && (has_figures_in_range row && has_field_texts row)

-- a line can hold a field: all numbers, and the texts that a field can hold
abbrev pub is_spellable_cell : Cell → Bool
is_spellable_cell (Number number) = true
is_spellable_cell (Text text) = is_field_text text.now

-- a line can spell a row of a dimension. Its last field is one that is not kept
abbrev pub is_spellable_customer : CustomerRow → Bool
is_spellable_customer row =
    nat_lt row.key (2 ^ 32) && list_all is_field_text (row.city ∷ row.nation ∷ row.region ∷ [])

abbrev pub is_spellable_supplier : SupplierRow → Bool
is_spellable_supplier row =
    nat_lt row.key (2 ^ 32) && list_all is_field_text (row.city ∷ row.nation ∷ row.region ∷ [])

abbrev pub is_spellable_part : PartRow → Bool
is_spellable_part row =
    nat_lt row.key (2 ^ 32) && list_all is_field_text (row.brand1 ∷ row.category ∷ row.mfgr ∷ [])

abbrev pub is_spellable_date : DateRow → Bool
is_spellable_date row =
    nat_lt row.key (2 ^ 32)
    && list_all is_field_text (row.yearmonthnum ∷ row.year ∷ row.yearmonth ∷ row.weeknuminyear ∷ [])

-- lines can spell all rows of a dimension
abbrev pub is_spellable_dimension : DimRows → Axis → Bool
is_spellable_dimension rows Customer = list_all is_spellable_customer rows.customers
is_spellable_dimension rows Supplier = list_all is_spellable_supplier rows.suppliers
is_spellable_dimension rows Part = list_all is_spellable_part rows.parts
is_spellable_dimension rows Date = list_all is_spellable_date rows.dates

-- a table that lines can spell was written, and another was refused with nothing of it written
abbrev pub WritesTable : Bool → Option (List ℕ) → Option (List ℕ) → Result Unit Fault → List ℕ → Type 0
WritesTable true old new result text = Writes old new result text
WritesTable false old new result text = (result ≡ Err BadLayout) × Keeps old new
