-- A row by its key and its texts.
use Rattle.std.proofs.Common.{◌≡◌, refl, ℕ, Bool, true, false, cond, List, [], ◌∷◌, Option, Some, None}
use Rattle.std.specs.Prelude.{◌==◌, find, IfSome, IsTrue}
use Rattle.std.specs.Bool.{OnTrue}
use Rattle.std.specs.Option.{option_and_then}
use Rattle.std.proofs.lemmas.Bool.{eqb-true}
use Rattle.cube_model.specs.declared.attr.Attr.TheVariants.{CustomerCity, CustomerNation, CustomerRegion, SupplierCity}
use Rattle.cube_model.specs.declared.attr.Attr.TheVariants.{SupplierNation, SupplierRegion, PartBrand1, PartCategory}
use Rattle.cube_model.specs.declared.attr.Attr.TheVariants.{PartMfgr, DateYearmonthnum, DateYear, DateYearmonth}
use Rattle.cube_model.specs.declared.attr.Attr.TheVariants.{DateWeeknuminyear}
use Rattle.cube_model.specs.declared.attr.Axis.TheVariants.{Customer, Supplier, Part, Date}
use Rattle.cube_model.specs.declared.rows.CustomerRow.{CustomerRow}
use Rattle.cube_model.specs.declared.rows.SupplierRow.{SupplierRow}
use Rattle.cube_model.specs.declared.rows.PartRow.{PartRow}
use Rattle.cube_model.specs.declared.rows.DateRow.{DateRow}
use Rattle.cube_model.specs.declared.rows.DimRows.{DimRows}
use Rattle.cube_model.specs.Attributes.{attribute_at, customer_of, date_of, of_customer, of_date, of_part, of_supplier}
use Rattle.cube_model.specs.Attributes.{part_of, supplier_of}
use Rattle.stored_rows.specs.Among.{HasCustomer, HasDate, HasPart, HasSupplier}

-- what follows from a test
pub on_true : {P : Type 0} (test : Bool) → (IsTrue test → P) → OnTrue test P
on_true true so = so refl
on_true false so = tt

-- ---- the row that is found has the key

first_or : {X : Type 0} (P : X → Type 0) (test : Bool) (first : X) (found : Option X) → (test ≡ true → P first)
    → IfSome found P → IfSome (cond test (Some first) found) P
first_or P true first found here later = here refl
first_or P false first found here later = later

has_key : {X : Type 0} (key_of : X → ℕ) (key : ℕ) (rows : List X)
    → IfSome (find (λ row. key_of row == key) rows) (λ row. key_of row ≡ key)
has_key key_of key [] = tt
has_key key_of key (row ∷ rows) =
    first_or (λ one. key_of one ≡ key) (key_of row == key) row (find (λ one. key_of one == key) rows)
    (eqb-true (key_of row) key) (has_key key_of key rows)

-- ---- with the texts of a row it is this row

same_customer : (found : Option CustomerRow) (row : CustomerRow) → IfSome found (λ one. one.key ≡ row.key)
    → option_and_then (of_customer CustomerCity) found ≡ Some row.city
    → option_and_then (of_customer CustomerNation) found ≡ Some row.nation
    → option_and_then (of_customer CustomerRegion) found ≡ Some row.region → found ≡ Some row
same_customer None row key city nation region = absurd cc
same_customer (Some one) row key city nation region =
    let cities : one.city ≡ row.city = cc in
    let nations : one.nation ≡ row.nation = cc in
    let regions : one.region ≡ row.region = cc in
    λ i. Some (record { key = key i; city = cities i; nation = nations i; region = regions i })

same_supplier : (found : Option SupplierRow) (row : SupplierRow) → IfSome found (λ one. one.key ≡ row.key)
    → option_and_then (of_supplier SupplierCity) found ≡ Some row.city
    → option_and_then (of_supplier SupplierNation) found ≡ Some row.nation
    → option_and_then (of_supplier SupplierRegion) found ≡ Some row.region → found ≡ Some row
same_supplier None row key city nation region = absurd cc
same_supplier (Some one) row key city nation region =
    let cities : one.city ≡ row.city = cc in
    let nations : one.nation ≡ row.nation = cc in
    let regions : one.region ≡ row.region = cc in
    λ i. Some (record { key = key i; city = cities i; nation = nations i; region = regions i })

same_part : (found : Option PartRow) (row : PartRow) → IfSome found (λ one. one.key ≡ row.key)
    → option_and_then (of_part PartBrand1) found ≡ Some row.brand1
    → option_and_then (of_part PartCategory) found ≡ Some row.category
    → option_and_then (of_part PartMfgr) found ≡ Some row.mfgr → found ≡ Some row
same_part None row key brand category mfgr = absurd cc
same_part (Some one) row key brand category mfgr =
    let brands : one.brand1 ≡ row.brand1 = cc in
    let categories : one.category ≡ row.category = cc in
    let mfgrs : one.mfgr ≡ row.mfgr = cc in
    λ i. Some (record { key = key i; brand1 = brands i; category = categories i; mfgr = mfgrs i })

same_date : (found : Option DateRow) (row : DateRow) → IfSome found (λ one. one.key ≡ row.key)
    → option_and_then (of_date DateYear) found ≡ Some row.year → option_and_then (of_date DateYearmonthnum) found
    ≡ Some row.yearmonthnum
    → option_and_then (of_date DateYearmonth) found ≡ Some row.yearmonth
    → option_and_then (of_date DateWeeknuminyear) found ≡ Some row.weeknuminyear → found ≡ Some row
same_date None row key year month name week = absurd cc
same_date (Some one) row key year month name week =
    let years : one.year ≡ row.year = cc in
    let months : one.yearmonthnum ≡ row.yearmonthnum = cc in
    let names : one.yearmonth ≡ row.yearmonth = cc in
    let weeks : one.weeknuminyear ≡ row.weeknuminyear = cc in
    λ i. Some (record {
      key = key i;
      year = years i;
      yearmonthnum = months i;
      yearmonth = names i;
      weeknuminyear = weeks i;
    })

module _ (rows : DimRows) where
  pub has-customer : (row : CustomerRow) → attribute_at rows Customer row.key CustomerCity ≡ Some row.city
      → attribute_at rows Customer row.key CustomerNation ≡ Some row.nation
      → attribute_at rows Customer row.key CustomerRegion ≡ Some row.region → HasCustomer rows row
  has-customer row = same_customer (customer_of rows row.key) row (has_key (λ one. one.key) row.key rows.customers)

  pub has-supplier : (row : SupplierRow) → attribute_at rows Supplier row.key SupplierCity ≡ Some row.city
      → attribute_at rows Supplier row.key SupplierNation ≡ Some row.nation
      → attribute_at rows Supplier row.key SupplierRegion ≡ Some row.region → HasSupplier rows row
  has-supplier row = same_supplier (supplier_of rows row.key) row (has_key (λ one. one.key) row.key rows.suppliers)

  pub has-part : (row : PartRow) → attribute_at rows Part row.key PartBrand1 ≡ Some row.brand1
      → attribute_at rows Part row.key PartCategory ≡ Some row.category
      → attribute_at rows Part row.key PartMfgr ≡ Some row.mfgr → HasPart rows row
  has-part row = same_part (part_of rows row.key) row (has_key (λ one. one.key) row.key rows.parts)

  pub has-date : (row : DateRow) → attribute_at rows Date row.key DateYear ≡ Some row.year
      → attribute_at rows Date row.key DateYearmonthnum ≡ Some row.yearmonthnum
      → attribute_at rows Date row.key DateYearmonth ≡ Some row.yearmonth
      → attribute_at rows Date row.key DateWeeknuminyear ≡ Some row.weeknuminyear → HasDate rows row
  has-date row = same_date (date_of rows row.key) row (has_key (λ one. one.key) row.key rows.dates)
