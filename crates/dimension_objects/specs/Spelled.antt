-- How the rows of a dimension are stored. Our layout.
--
-- First come its name, its number and how many rows it has; then the texts of each column; then the codes of the
-- columns that a lower one determines, one for each text of the lower one; then the key of each row; then the codes of
-- the other columns, one for each row.
use Rattle.std.specs.Prelude.{◌≡◌, ℕ, ◌^◌, ◌<◌, List, [], ◌∷◌, ◌++◌, map, length, codes}
use Rattle.std.specs.List.{AllByRecursion, flat_map}
use Rattle.cube_model.specs.declared.attr.Axis.{Axis}
use Rattle.cube_model.specs.declared.attr.Axis.TheVariants.{Customer, Supplier, Part, Date}
use Rattle.cube_model.specs.declared.rows.DimRows.{DimRows}
use Rattle.cube_model.specs.Validity.{HaveShortTexts, IsValid}
use Rattle.wire.specs.Spelling.{spelling}
use Rattle.dictionary.specs.Dictionary.{firsts}
use Rattle.dictionary.specs.Spelling.{texts_spelling}
use Rattle.dictionary.specs.Columns.{codes_of, codes_spelling}
use Rattle.dimensions.specs.TextRows.{TextRow}
use Rattle.dimensions.specs.Coded.{texts_at_places}
use Rattle.dimensions.specs.Shown.{AreStorable, rows_on}

-- the number of a dimension
abbrev pub axis_number : Axis → ℕ
axis_number Customer = 0
axis_number Supplier = 1
axis_number Part = 2
axis_number Date = 3

-- The columns in the order in which their texts are: the lowest member first. Of days they are yearmonthnum,
-- yearmonth, year and week.
abbrev pub stored_columns : Axis → List ℕ
stored_columns Customer = 0 ∷ 1 ∷ 2 ∷ []
stored_columns Supplier = 0 ∷ 1 ∷ 2 ∷ []
stored_columns Part = 0 ∷ 1 ∷ 2 ∷ []
stored_columns Date = 0 ∷ 2 ∷ 1 ∷ 3 ∷ []

-- those of them that a lower column determines
abbrev pub linked_columns : Axis → List ℕ
linked_columns Customer = 1 ∷ 2 ∷ []
linked_columns Supplier = 1 ∷ 2 ∷ []
linked_columns Part = 1 ∷ 2 ∷ []
linked_columns Date = 2 ∷ 1 ∷ []

-- the others
abbrev pub row_columns : Axis → List ℕ
row_columns Customer = 0 ∷ []
row_columns Supplier = 0 ∷ []
row_columns Part = 0 ∷ []
row_columns Date = 0 ∷ 3 ∷ []

-- what is before the columns
abbrev pub dimension_header : Axis → ℕ → List ℕ
dimension_header axis rows = codes "DIM1" ++ (spelling 4 (axis_number axis) ++ spelling 4 rows)

-- the texts of columns, and the codes of columns
abbrev pub texts_in_order : (ℕ → List (List ℕ)) → List ℕ → List ℕ
texts_in_order texts columns = flat_map (λ column. texts_spelling (texts column)) columns

abbrev pub codes_in_order : (ℕ → List ℕ) → List ℕ → List ℕ
codes_in_order numbers columns = flat_map (λ column. codes_spelling (numbers column)) columns

-- keys, in four bytes each
abbrev pub keys_spelling : List ℕ → List ℕ
keys_spelling keys = flat_map (spelling 4) keys

-- what is stored: the key of each row and, of each column, its texts and the code at each of its places
pub record Parts : Type 0 where
  pub keys : List ℕ
  pub texts : ℕ → List (List ℕ)
  pub codes : ℕ → List ℕ

abbrev pub parts_spelling : Axis → Parts → List ℕ
parts_spelling axis parts =
    dimension_header axis (length parts.keys)
    ++ (texts_in_order parts.texts (stored_columns axis)
    ++ (codes_in_order parts.codes (linked_columns axis)
    ++ (keys_spelling parts.keys
    ++ codes_in_order parts.codes (row_columns axis))))

-- the parts of some rows
abbrev pub dimension_parts : Axis → List TextRow → Parts
dimension_parts axis rows = record {
  keys = map (λ row. row.key) rows;
  texts = λ column. firsts (texts_at_places axis column rows);
  codes = λ column. codes_of (texts_at_places axis column rows);
}

-- the bytes of some rows
abbrev pub dimension_spelling : Axis → List TextRow → List ℕ
dimension_spelling axis rows = parts_spelling axis (dimension_parts axis rows)

-- four objects are the bytes of the four dimensions, whose rows can be stored
pub record AreDimensionObjects (customers suppliers parts dates : List ℕ) (rows : DimRows) : Type 0 where
  pub customers_are : customers ≡ dimension_spelling Customer (rows_on rows Customer)
  pub suppliers_are : suppliers ≡ dimension_spelling Supplier (rows_on rows Supplier)
  pub parts_are : parts ≡ dimension_spelling Part (rows_on rows Part)
  pub dates_are : dates ≡ dimension_spelling Date (rows_on rows Date)
  pub storable : AreStorable rows
