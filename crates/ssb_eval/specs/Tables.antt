-- The five tables while they are read, and what is kept of a refusal. Our own.
use Rattle.std.specs.Prelude.{◌≡◌, ◌⊎◌, ◌-◌, ℕ, true, List, Option, Some, None, IfErr, IfSome, Result, Ok, length}
use Rattle.std.specs.Prelude.{slice_get}
use Rattle.cube_model.specs.declared.attr.Axis.{Axis}
use Rattle.cube_model.specs.declared.attr.Axis.TheVariants.{Customer, Supplier, Part, Date}
use Rattle.cube_model.specs.declared.fault.Fault.{Fault}
use Rattle.cube_model.specs.declared.fault.Fault.TheVariants.{Memory, UnknownCustomer, UnknownSupplier, UnknownPart}
use Rattle.cube_model.specs.declared.fault.Fault.TheVariants.{UnknownDate}
use Rattle.cube_model.specs.declared.rows.DimRows.{DimRows}
use Rattle.cube_model.specs.declared.rows.LineOrder.{LineOrder}
use Rattle.cube_model.specs.Attributes.{key_on}
use Rattle.cube_model.specs.Validity.{invalid_cause}
use Rattle.batch_admission.specs.Found.{lacks}
use Rattle.batch_loader.specs.Tables.{lineorder_row}
use Rattle.batch_loader.specs.Unread.{Unread}
use Rattle.dimension_tables.specs.Tables.{AreFresh, AreUnread, DimensionLines, IsUnread, KeepLines, KeepsLine}
use Rattle.dimension_tables.specs.Texts.{TableTexts, dimensions_of}
use Rattle.ssb_eval.specs.declared.unknown.UnknownKey.{UnknownKey}

-- what is known of the five tables, and what is kept of a refusal: the dimension rows that break a rule, and a key of
-- the fact table that no row of its dimension has
pub record StarLines : Type 0 where
  pub dimensions : DimensionLines
  pub lineorder : Unread
  pub broken : Option DimRows
  pub unknown : Option UnknownKey

-- none of the lines of the five texts was taken yet, and nothing is kept
pub record IsUnreadStar (lines : StarLines) (texts : TableTexts) : Type 0 where
  pub dimensions : AreUnread lines.dimensions texts
  pub lineorder : IsUnread lines.lineorder texts.lineorder
  pub broken : lines.broken ≡ None
  pub unknown : lines.unknown ≡ None

-- dimension rows that are kept break the rule that a fault names, or memory was refused
abbrev pub KeepsBroken : Option DimRows → Fault → Type 0
KeepsBroken broken fault = IfSome broken (λ rows. (fault ≡ Memory) ⊎ (invalid_cause rows ≡ Some fault))

-- the dimension that a fault says has no row with a key
abbrev pub unknown_on : Fault → Option Axis
unknown_on (UnknownCustomer row) = Some Customer
unknown_on (UnknownSupplier row) = Some Supplier
unknown_on (UnknownPart row) = Some Part
unknown_on (UnknownDate row) = Some Date
unknown_on fault = None

-- no row of its dimension has a key
abbrev pub IsInNoRow : DimRows → UnknownKey → Type 0
IsInNoRow dimensions unknown = lacks dimensions unknown.axis unknown.key ≡ true

-- a key of some fact rows that no row of its dimension has, and its line. The last of the rows is that of a line with a
-- number
pub record IsUnknownIn (dimensions : DimRows) (axis : Axis) (rows : List LineOrder) (last : ℕ)
    (unknown : UnknownKey) : Type 0 where
  pub axis_is : unknown.axis ≡ axis
  pub place : ℕ
  pub row : LineOrder
  pub row_is : slice_get rows place ≡ Some row
  pub key_is : unknown.key ≡ key_on axis row
  pub line_is : unknown.line ≡ last - (length rows - 1 - place)
  pub in_none : IsInNoRow dimensions unknown

-- nothing was refused yet, and nothing is kept
pub record IsFresh (lines : StarLines) : Type 0 where
  pub dimensions : AreFresh lines.dimensions
  pub lineorder : lines.lineorder.fault ≡ None
  pub broken : lines.broken ≡ None
  pub unknown : lines.unknown ≡ None

-- what is kept of a refusal: the line of a table that is refused, and dimension rows that break the rule
pub record KeepsCause {A : Type 0} (new : StarLines) (result : Result A Fault) : Type 0 where
  pub dimensions : KeepLines new.dimensions
  pub lineorder : KeepsLine lineorder_row new.lineorder
  pub broken : IfErr result (KeepsBroken new.broken)

-- and of the fact table a key that is in no row of its dimension
abbrev pub KeepsUnknown : TableTexts → StarLines → Type 0
KeepsUnknown texts new =
    IfSome new.unknown (λ unknown. (dimensions : DimRows) × (dimensions_of texts ≡ Ok dimensions)
    × IsInNoRow dimensions unknown)
