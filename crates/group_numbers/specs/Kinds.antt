-- The rows of a dimension by kinds: rows of one kind have the same attributes, so what a query does at one of them it
-- does at all. A customer's and a supplier's kind is the code of its city, a part's that of its brand; each day is a
-- kind of its own. Our own.
use Rattle.std.specs.Prelude.{◌≡◌, ℕ, ◌<◌, List, length, slice_index_or}
use Rattle.cube_model.specs.declared.attr.Attr.TheVariants.{CustomerCity, SupplierCity, PartBrand1}
use Rattle.cube_model.specs.declared.attr.Axis.{Axis}
use Rattle.cube_model.specs.declared.attr.Axis.TheVariants.{Customer, Supplier, Part, Date}
use Rattle.cube_model.specs.declared.rows.DimRows.{DimRows}
use Rattle.cube_model.specs.Places.{row_count_of, texts_of}
use Rattle.dimensions.specs.Columns.{code_at}
use Rattle.group_numbers.specs.declared.kinds.Kinds.{Kinds}
use Rattle.group_numbers.specs.declared.kinds.Kinds.TheVariants.{Rows, Codes}

-- the kind of the row at a place
abbrev pub kind_at : DimRows → Axis → ℕ → ℕ
kind_at dimensions Customer place = code_at (texts_of dimensions CustomerCity) place
kind_at dimensions Supplier place = code_at (texts_of dimensions SupplierCity) place
kind_at dimensions Part place = code_at (texts_of dimensions PartBrand1) place
kind_at dimensions Date place = place

-- a place has a kind, and which
abbrev pub has_kind : Kinds → ℕ → Type 0
has_kind Rows place = Unit {0}
has_kind (Codes codes) place = place < length codes.now

abbrev pub kind_in : Kinds → ℕ → ℕ
kind_in Rows place = place
kind_in (Codes codes) place = slice_index_or codes.now place 0

-- kinds are those of the rows of a dimension
pub record AreKinds (dimensions : DimRows) (axis : Axis) (kinds : Kinds) : Type 0 where
  pub known : (place : ℕ) → place < row_count_of dimensions axis → has_kind kinds place
  pub are : (place : ℕ) → place < row_count_of dimensions axis → kind_in kinds place ≡ kind_at dimensions axis place

-- for each kind of the rows of a dimension, by the kinds, the place of a row of it
pub record HasEachKind (dimensions : DimRows) (axis : Axis) (places : List ℕ) : Type 0 where
  pub within : (kind : ℕ) → kind < length places → slice_index_or places kind 0 < row_count_of dimensions axis
  pub own : (kind : ℕ) → kind < length places → kind_at dimensions axis (slice_index_or places kind 0) ≡ kind
  pub all : (place : ℕ) → place < row_count_of dimensions axis → kind_at dimensions axis place < length places

-- for each code of a list, by the codes, the place of a use of it
pub record HasEachCode (codes places : List ℕ) : Type 0 where
  pub within : (code : ℕ) → code < length places → slice_index_or places code 0 < length codes
  pub own : (code : ℕ) → code < length places → slice_index_or codes (slice_index_or places code 0) 0 ≡ code
  pub all : (place : ℕ) → place < length codes → slice_index_or codes place 0 < length places
