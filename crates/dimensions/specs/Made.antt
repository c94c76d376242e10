-- Dimensions that are made of rows by codes, and when there are no such rows. Our own.
use Rattle.std.specs.Prelude.{◌≡◌, ◌⊎◌, Result, MatchResult, List}
use Rattle.cube_model.specs.declared.attr.Axis.{Axis}
use Rattle.cube_model.specs.declared.attr.Axis.TheVariants.{Customer, Supplier, Part, Date}
use Rattle.cube_model.specs.declared.fault.Fault.{Fault}
use Rattle.cube_model.specs.declared.fault.Fault.TheVariants.{BadLayout, Memory}
use Rattle.cube_model.specs.declared.rows.DimRows.{DimRows}
use Rattle.cube_model.specs.Validity.{HaveShortTexts, IsValid}
use Rattle.dimensions.specs.declared.coded.CodedDims.{CodedDims}
use Rattle.dimensions.specs.declared.coded.CodedRows.{CodedRows}
use Rattle.dimensions.specs.declared.dimension.Dimension.{Dimension}
use Rattle.dimensions.specs.TextRows.{TextRow}
use Rattle.dimensions.specs.Coded.{AreCodedRows, AreGoodRows, ColumnsHaveTexts}
use Rattle.dimensions.specs.Dimensions.{IsDimension}
use Rattle.dimensions.specs.Shown.{rows_on, rows_of_dimension}

-- no rows that keep the rules are those of the codes
abbrev pub EncodeNone : Axis → CodedRows → Type 0
EncodeNone axis coded = (rows : List TextRow) → AreGoodRows axis rows → ¬ AreCodedRows axis rows coded

-- why rows by codes are refused
abbrev pub IsRefusal : Axis → CodedRows → Fault → Type 0
IsRefusal axis coded fault = (fault ≡ Memory) ⊎ ((fault ≡ BadLayout) × EncodeNone axis coded)

-- a dimension is that of rows by codes, which keep the rules
pub record IsDimensionOf (axis : Axis) (coded : CodedRows) (dimension : Dimension) : Type 0 where
  pub is : IsDimension axis (rows_of_dimension axis dimension) dimension
  pub good : AreGoodRows axis (rows_of_dimension axis dimension)
  pub codes_are : AreCodedRows axis (rows_of_dimension axis dimension) coded

-- a dimension of rows by codes, or why they are refused
abbrev pub MakesDimension : Axis → CodedRows → Result Dimension Fault → Type 0
MakesDimension axis coded result = MatchResult result (IsDimensionOf axis coded) (IsRefusal axis coded)

-- rows by codes of the four dimensions are those of some rows
pub record AreCodedDims (rows : DimRows) (coded : CodedDims) : Type 0 where
  pub customers : AreCodedRows Customer (rows_on rows Customer) coded.customers
  pub suppliers : AreCodedRows Supplier (rows_on rows Supplier) coded.suppliers
  pub parts : AreCodedRows Part (rows_on rows Part) coded.parts
  pub dates : AreCodedRows Date (rows_on rows Date) coded.dates

-- the columns of the four dimensions have texts
pub record HaveAllTexts (coded : CodedDims) : Type 0 where
  pub customers : ColumnsHaveTexts coded.customers.columns
  pub suppliers : ColumnsHaveTexts coded.suppliers.columns
  pub parts : ColumnsHaveTexts coded.parts.columns
  pub dates : ColumnsHaveTexts coded.dates.columns

-- no valid rows with short texts are those of the codes
abbrev pub EncodeNoRows : CodedDims → Type 0
EncodeNoRows coded = (rows : DimRows) → IsValid rows → HaveShortTexts rows → ¬ AreCodedDims rows coded
