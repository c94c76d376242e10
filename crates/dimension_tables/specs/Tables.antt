-- The tables of the dimensions while they are read. Our own.
use Rattle.std.specs.Prelude.{◌≡◌, ◌≢◌, ℕ, List, Some, None, IfSome, Result}
use Rattle.batch_loader.specs.Reading.{RefusesLine}
use Rattle.batch_loader.specs.Tables.{customer_row, supplier_row, part_row, date_row}
use Rattle.batch_loader.specs.Unread.{Unread}
use Rattle.cube_model.specs.declared.attr.Axis.{Axis}
use Rattle.cube_model.specs.declared.attr.Axis.TheVariants.{Customer, Supplier, Part, Date}
use Rattle.cube_model.specs.declared.fault.Fault.{Fault}
use Rattle.dimension_tables.specs.Texts.{TableTexts}

-- what is known of the tables of the dimensions
pub record DimensionLines : Type 0 where
  pub customer : Unread
  pub supplier : Unread
  pub part : Unread
  pub date : Unread

-- that of one dimension
abbrev pub lines_on : Axis → DimensionLines → Unread
lines_on Customer lines = lines.customer
lines_on Supplier lines = lines.supplier
lines_on Part lines = lines.part
lines_on Date lines = lines.date

-- none of the lines of a text was taken yet
pub record IsUnread (lines : Unread) (text : List ℕ) : Type 0 where
  pub left : lines.left ≡ Some text
  pub number : lines.number ≡ 0
  pub fault : lines.fault ≡ None

pub record AreUnread (lines : DimensionLines) (texts : TableTexts) : Type 0 where
  pub customer : IsUnread lines.customer texts.customer
  pub supplier : IsUnread lines.supplier texts.supplier
  pub part : IsUnread lines.part texts.part
  pub date : IsUnread lines.date texts.date

-- where a text is refused, it is for the line that was taken last
abbrev pub KeepsLine : {Row : Type 0} → (ℕ → List ℕ → Result Row Fault) → Unread → Type 0
KeepsLine row lines = IfSome lines.fault (RefusesLine row lines)

pub record KeepLines (lines : DimensionLines) : Type 0 where
  pub customer : KeepsLine customer_row lines.customer
  pub supplier : KeepsLine supplier_row lines.supplier
  pub part : KeepsLine part_row lines.part
  pub date : KeepsLine date_row lines.date

-- the table of a dimension is refused, for a line
abbrev pub IsRefusedFor : DimensionLines → Axis → List ℕ → Type 0
IsRefusedFor lines axis line = ((lines_on axis lines).fault ≢ None) × (line ≡ (lines_on axis lines).line)

-- nothing was refused yet
pub record AreFresh (lines : DimensionLines) : Type 0 where
  pub customer : lines.customer.fault ≡ None
  pub supplier : lines.supplier.fault ≡ None
  pub part : lines.part.fault ≡ None
  pub date : lines.date.fault ≡ None
