-- The attribute of a fact row by the place of its dimension's row.
use Rattle.std.proofs.Common.{◌≡◌, ◌∙◌, zero, suc, ap, refl, ◌==◌, ℕ, Bool, List, [], ◌∷◌, map, get_or, slice_get, find}
use Rattle.std.proofs.Common.{Some}
use Rattle.std.specs.Prelude.{unwrap_or}
use Rattle.std.specs.List.{position_or_len}
use Rattle.std.specs.Option.{option_and_then}
use Rattle.std.specs.Fmt.{decimal}
use Rattle.std.proofs.lemmas.List.Folds.{find_at}
use Rattle.cube_model.specs.declared.attr.Attr.{Attr}
use Rattle.cube_model.specs.declared.attr.Attr.TheVariants.{CustomerCity, CustomerNation, CustomerRegion, SupplierCity}
use Rattle.cube_model.specs.declared.attr.Attr.TheVariants.{SupplierNation, SupplierRegion, PartBrand1, PartCategory}
use Rattle.cube_model.specs.declared.attr.Attr.TheVariants.{PartMfgr, DateKey, DateYearmonthnum, DateYear}
use Rattle.cube_model.specs.declared.attr.Attr.TheVariants.{DateYearmonth, DateWeeknuminyear}
use Rattle.cube_model.specs.declared.rows.DimRows.{DimRows}
use Rattle.cube_model.specs.declared.rows.LineOrder.{LineOrder}
use Rattle.cube_model.specs.Attributes.{attribute_of, axis_of, key_on}
use Rattle.cube_model.specs.Places.{row_index_of, text_at}

text_of_found : {Row : Type 0} (text : Row → List ℕ) (rows : List Row) (place : ℕ)
    → unwrap_or (option_and_then (λ row. Some (text row)) (slice_get rows place)) [] ≡ get_or (map text rows) place []
text_of_found text [] place = refl
text_of_found text (row ∷ rows) zero = refl
text_of_found text (row ∷ rows) (suc place) = text_of_found text rows place

by_place : {Row : Type 0} (text : Row → List ℕ) (is : Row → Bool) (rows : List Row)
    → unwrap_or (option_and_then (λ row. Some (text row)) (find is rows)) []
    ≡ get_or (map text rows) (position_or_len is rows) []
by_place text is rows = ap (λ found. unwrap_or (option_and_then (λ row. Some (text row)) found) []) (find_at is rows)
    ∙ text_of_found text rows (position_or_len is rows)

pub attribute_at_place : (dimensions : DimRows) (attr : Attr) (row : LineOrder)
    → attribute_of dimensions attr row
    ≡ text_at dimensions attr (row_index_of dimensions (axis_of attr) (key_on (axis_of attr) row))
attribute_at_place dimensions CustomerCity row = by_place (λ r. r.city) (λ r. r.key == row.custkey) dimensions.customers
attribute_at_place dimensions CustomerNation row =
    by_place (λ r. r.nation) (λ r. r.key == row.custkey) dimensions.customers
attribute_at_place dimensions CustomerRegion row =
    by_place (λ r. r.region) (λ r. r.key == row.custkey) dimensions.customers
attribute_at_place dimensions SupplierCity row = by_place (λ r. r.city) (λ r. r.key == row.suppkey) dimensions.suppliers
attribute_at_place dimensions SupplierNation row =
    by_place (λ r. r.nation) (λ r. r.key == row.suppkey) dimensions.suppliers
attribute_at_place dimensions SupplierRegion row =
    by_place (λ r. r.region) (λ r. r.key == row.suppkey) dimensions.suppliers
attribute_at_place dimensions PartBrand1 row = by_place (λ r. r.brand1) (λ r. r.key == row.partkey) dimensions.parts
attribute_at_place dimensions PartCategory row = by_place (λ r. r.category) (λ r. r.key == row.partkey) dimensions.parts
attribute_at_place dimensions PartMfgr row = by_place (λ r. r.mfgr) (λ r. r.key == row.partkey) dimensions.parts
attribute_at_place dimensions DateKey row = by_place (λ r. decimal r.key) (λ r. r.key == row.orderdate) dimensions.dates
attribute_at_place dimensions DateYearmonthnum row =
    by_place (λ r. r.yearmonthnum) (λ r. r.key == row.orderdate) dimensions.dates
attribute_at_place dimensions DateYear row = by_place (λ r. r.year) (λ r. r.key == row.orderdate) dimensions.dates
attribute_at_place dimensions DateYearmonth row =
    by_place (λ r. r.yearmonth) (λ r. r.key == row.orderdate) dimensions.dates
attribute_at_place dimensions DateWeeknuminyear row =
    by_place (λ r. r.weeknuminyear) (λ r. r.key == row.orderdate) dimensions.dates
