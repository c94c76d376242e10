-- The rows of a dimension by their places, which count from 0.
use Rattle.std.specs.Prelude.{ℕ, ◌^◌, ◌&&◌, nat_lt, Bool, List, [], ◌∷◌, map, slice_index_or, take}
use Rattle.std.specs.Fmt.{decimal}
use Rattle.std.specs.List.{list_all}
use Rattle.cube_model.specs.declared.attr.Attr.TheVariants.{CustomerCity, CustomerNation, CustomerRegion, SupplierCity}
use Rattle.cube_model.specs.declared.attr.Attr.TheVariants.{SupplierNation, SupplierRegion, PartBrand1, PartCategory}
use Rattle.cube_model.specs.declared.attr.Attr.TheVariants.{PartMfgr, DateYearmonthnum, DateYear, DateYearmonth}
use Rattle.cube_model.specs.declared.attr.Attr.TheVariants.{DateWeeknuminyear}
use Rattle.cube_model.specs.declared.attr.Axis.{Axis}
use Rattle.cube_model.specs.declared.attr.Axis.TheVariants.{Customer, Supplier, Part, Date}
use Rattle.cube_model.specs.declared.rows.DimRows.{DimRows}
use Rattle.cube_model.specs.Places.{text_at}
use Rattle.dimensions.specs.Shown.{rows_on}
use Rattle.table_texts.specs.declared.dimension.KeptTexts.{KeptTexts}
use Rattle.table_texts.specs.Spellable.{is_field_text, is_spellable_customer, is_spellable_supplier, is_spellable_part}
use Rattle.table_texts.specs.Spellable.{is_spellable_date}
use Rattle.table_texts.specs.Texts.{table_text, customer_fields, supplier_fields, part_fields, date_fields}

-- the key of the row at a place
abbrev pub row_key : DimRows → Axis → ℕ → ℕ
row_key rows axis place = slice_index_or (map (λ row. row.key) (rows_on rows axis)) place 0

-- the texts that are kept of the row at a place. Only a day has a fourth
abbrev pub texts_at : DimRows → Axis → ℕ → List (List ℕ)
texts_at rows Customer place =
    text_at rows CustomerCity place ∷ text_at rows CustomerNation place ∷ text_at rows CustomerRegion place ∷ [] ∷ []
texts_at rows Supplier place =
    text_at rows SupplierCity place ∷ text_at rows SupplierNation place ∷ text_at rows SupplierRegion place ∷ [] ∷ []
texts_at rows Part place =
    text_at rows PartBrand1 place ∷ text_at rows PartCategory place ∷ text_at rows PartMfgr place ∷ [] ∷ []
texts_at rows Date place =
    text_at rows DateYearmonthnum place ∷ text_at rows DateYear place ∷ text_at rows DateYearmonth place
    ∷ text_at rows DateWeeknuminyear place ∷ []

-- four texts as a list
abbrev pub texts_listed : KeptTexts → List (List ℕ)
texts_listed texts = texts.first.now ∷ texts.second.now ∷ texts.third.now ∷ texts.fourth.now ∷ []

-- the fields of the row at a place
abbrev pub row_fields : DimRows → Axis → ℕ → List (List ℕ)
row_fields rows Customer place =
    decimal (row_key rows Customer place) ∷ [] ∷ [] ∷ text_at rows CustomerCity place
    ∷ text_at rows CustomerNation place
    ∷ text_at rows CustomerRegion place ∷ [] ∷ [] ∷ []
row_fields rows Supplier place =
    decimal (row_key rows Supplier place) ∷ [] ∷ [] ∷ text_at rows SupplierCity place
    ∷ text_at rows SupplierNation place
    ∷ text_at rows SupplierRegion place ∷ [] ∷ []
row_fields rows Part place =
    decimal (row_key rows Part place) ∷ [] ∷ text_at rows PartMfgr place ∷ text_at rows PartCategory place
    ∷ text_at rows PartBrand1 place ∷ [] ∷ [] ∷ [] ∷ [] ∷ []
row_fields rows Date place =
    decimal (row_key rows Date place) ∷ [] ∷ [] ∷ [] ∷ text_at rows DateYear place ∷ text_at rows DateYearmonthnum place
    ∷ text_at rows DateYearmonth place ∷ [] ∷ [] ∷ [] ∷ [] ∷ text_at rows DateWeeknuminyear place
    ∷ [] ∷ [] ∷ [] ∷ [] ∷ [] ∷ []

-- a line can spell the row at a place
abbrev pub is_spellable_at : DimRows → Axis → ℕ → Bool
is_spellable_at rows axis place =
    nat_lt (row_key rows axis place) (2 ^ 32) && list_all is_field_text (texts_at rows axis place)

-- the lines of the rows before a place
abbrev pub text_before : DimRows → Axis → ℕ → List ℕ
text_before rows Customer place = table_text customer_fields (take place rows.customers)
text_before rows Supplier place = table_text supplier_fields (take place rows.suppliers)
text_before rows Part place = table_text part_fields (take place rows.parts)
text_before rows Date place = table_text date_fields (take place rows.dates)

-- lines can spell the rows before a place
abbrev pub is_spellable_before : DimRows → Axis → ℕ → Bool
is_spellable_before rows Customer place = list_all is_spellable_customer (take place rows.customers)
is_spellable_before rows Supplier place = list_all is_spellable_supplier (take place rows.suppliers)
is_spellable_before rows Part place = list_all is_spellable_part (take place rows.parts)
is_spellable_before rows Date place = list_all is_spellable_date (take place rows.dates)
