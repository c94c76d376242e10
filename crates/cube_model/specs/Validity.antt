-- Which dimension rows are valid, and the first cause where they are not.
-- The levels are the benchmark's; limits, the reserved text and the order of the causes are our own.
use Rattle.std.specs.Prelude.{◌≡◌, ◌≤◌, ℕ, ◌+◌, ◌==◌, nat_lt, Bool, ◌&&◌, not, Option, None, List, [], ◌∷◌, ◌++◌}
use Rattle.std.specs.Prelude.{length, map, codes}
use Rattle.std.specs.List.{list_any, AllByRecursion}
use Rattle.std.specs.Str.{bytes_eq}
use Rattle.std.specs.Ordering.{nat_cmp}
use Rattle.std.specs.Cmp.Lexicographic.{slice_cmp}
use Rattle.cube_model.specs.declared.attr.Axis.{Axis}
use Rattle.cube_model.specs.declared.attr.Axis.TheVariants.{Customer, Supplier, Part, Date}
use Rattle.cube_model.specs.declared.fault.Fault.{Fault}
use Rattle.cube_model.specs.declared.fault.Fault.TheVariants.{DuplicateKey, ReservedMember, TooManyMembers}
use Rattle.cube_model.specs.declared.fault.Fault.TheVariants.{HierarchyBroken, TooManyRows}
use Rattle.cube_model.specs.declared.fault.MemberPlace.TheVariants.{InDimension}
use Rattle.cube_model.specs.declared.rows.CustomerRow.{CustomerRow}
use Rattle.cube_model.specs.declared.rows.SupplierRow.{SupplierRow}
use Rattle.cube_model.specs.declared.rows.PartRow.{PartRow}
use Rattle.cube_model.specs.declared.rows.DateRow.{DateRow}
use Rattle.cube_model.specs.declared.rows.DimRows.{DimRows}
use Rattle.cube_model.specs.Ascending.{ascending}
use Rattle.cube_model.specs.Causes.{first_cause, cause_if}
use Rattle.cube_model.specs.Limits.{longest_text, most_days, most_dimension_rows, most_members}

-- the texts of a list, each once, in order by bytes
abbrev pub members_of : List (List ℕ) → List (List ℕ)
members_of texts = ascending (slice_cmp nat_cmp) texts

-- What the rules say of one dimension: its name, how many rows it may have, the key of a row, the texts of a row
-- that are members, and which of these texts determine another one.
pub record Rules (Row : Type 0) : Type 0 where
  pub axis : Axis
  pub row_limit : ℕ
  pub key : Row → ℕ
  pub texts : List (Row → List ℕ)
  pub links : List ((Row → List ℕ) × (Row → List ℕ))

abbrev pub customer_rules : Rules CustomerRow
customer_rules = record {
  axis = Customer;
  row_limit = most_dimension_rows;
  key = λ row. row.key;
  texts = (λ row. row.city) ∷ (λ row. row.nation) ∷ (λ row. row.region) ∷ [];
  links = ((λ row. row.city), (λ row. row.nation)) ∷ ((λ row. row.nation), (λ row. row.region)) ∷ [];
}

abbrev pub supplier_rules : Rules SupplierRow
supplier_rules = record {
  axis = Supplier;
  row_limit = most_dimension_rows;
  key = λ row. row.key;
  texts = (λ row. row.city) ∷ (λ row. row.nation) ∷ (λ row. row.region) ∷ [];
  links = ((λ row. row.city), (λ row. row.nation)) ∷ ((λ row. row.nation), (λ row. row.region)) ∷ [];
}

abbrev pub part_rules : Rules PartRow
part_rules = record {
  axis = Part;
  row_limit = most_dimension_rows;
  key = λ row. row.key;
  texts = (λ row. row.brand1) ∷ (λ row. row.category) ∷ (λ row. row.mfgr) ∷ [];
  links = ((λ row. row.brand1), (λ row. row.category)) ∷ ((λ row. row.category), (λ row. row.mfgr)) ∷ [];
}

-- a month determines its year and its yearmonth; the week goes with the day alone
abbrev pub date_rules : Rules DateRow
date_rules = record {
  axis = Date;
  row_limit = most_days;
  key = λ row. row.key;
  texts = (λ row. row.yearmonthnum) ∷ (λ row. row.year) ∷ (λ row. row.yearmonth) ∷ (λ row. row.weeknuminyear) ∷ [];
  links = ((λ row. row.yearmonthnum), (λ row. row.year)) ∷ ((λ row. row.yearmonthnum), (λ row. row.yearmonth)) ∷ [];
}

module _ {Row : Type 0} (rules : Rules Row) where
  -- a row has the key of an earlier one
  abbrev pub repeats_key : List Row → Row → Bool
  repeats_key earlier row = list_any (λ other. rules.key other == rules.key row) earlier

  -- a member is the text that means all members
  abbrev pub names_all : Row → Bool
  names_all row = list_any (λ text. bytes_eq (codes "ALL") (text row)) rules.texts

  -- with a row there are too many members of some kind
  abbrev pub overflows : List Row → Row → Bool
  overflows earlier row = list_any (λ text. nat_lt most_members (length (members_of (map text (earlier ++ row ∷ [])))))
      rules.texts

  -- a text that an earlier row has determines another text there than in this row
  abbrev pub breaks_link : List Row → Row → Bool
  breaks_link earlier row =
      list_any (λ link. list_any
      (λ other. bytes_eq (link.0 other) (link.0 row) && not (bytes_eq (link.1 other) (link.1 row))) earlier)
      rules.links

  -- the first cause to refuse a row after earlier ones. Rows count from 1
  abbrev pub row_cause : List Row → Row → Option Fault
  row_cause earlier row = first_cause (
      cause_if (repeats_key earlier row) (DuplicateKey rules.axis (length earlier + 1))
      ∷ cause_if (names_all row) (ReservedMember (InDimension rules.axis (length earlier + 1)))
      ∷ cause_if (overflows earlier row) (TooManyMembers (InDimension rules.axis (length earlier + 1)))
      ∷ cause_if (breaks_link earlier row) (HierarchyBroken rules.axis (length earlier + 1)) ∷ [])

  -- the first cause to refuse one of the rows that are left, after earlier ones
  abbrev pub rows_cause : List Row → List Row → Option Fault
  rows_cause earlier [] = None
  rows_cause earlier (row ∷ rows) = first_cause (row_cause earlier row ∷ rows_cause (earlier ++ row ∷ []) rows ∷ [])

  -- the first cause to refuse a dimension: too many rows, then row by row
  abbrev pub dimension_cause : List Row → Option Fault
  dimension_cause rows =
      first_cause (cause_if (nat_lt rules.row_limit (length rows)) TooManyRows ∷ rows_cause [] rows ∷ [])

-- the first cause to refuse the rows of the four dimensions: customer, supplier, part, date
abbrev pub invalid_cause : DimRows → Option Fault
invalid_cause rows = first_cause (
    dimension_cause customer_rules rows.customers
    ∷ dimension_cause supplier_rules rows.suppliers
    ∷ dimension_cause part_rules rows.parts
    ∷ dimension_cause date_rules rows.dates ∷ [])

-- the rows of the four dimensions keep the rules
abbrev pub IsValid : DimRows → Type 0
IsValid rows = invalid_cause rows ≡ None

-- each text that is kept of a row is short enough
abbrev pub HasShortTexts : {Row : Type 0} → Rules Row → Row → Type 0
HasShortTexts rules row = AllByRecursion (λ text. length (text row) ≤ longest_text) rules.texts

-- the same of each row: longer texts have no spelling on a disk
abbrev pub RowsHaveShortTexts : {Row : Type 0} → Rules Row → List Row → Type 0
RowsHaveShortTexts rules rows = AllByRecursion (HasShortTexts rules) rows

-- The same of the four dimensions. It is no part of being valid: who takes rows in asks for it.
pub record HaveShortTexts (rows : DimRows) : Type 0 where
  pub customers : RowsHaveShortTexts customer_rules rows.customers
  pub suppliers : RowsHaveShortTexts supplier_rules rows.suppliers
  pub parts : RowsHaveShortTexts part_rules rows.parts
  pub dates : RowsHaveShortTexts date_rules rows.dates
