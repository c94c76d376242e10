-- The attributes of the dimensions by columns and row indexes.
use Rattle.std.proofs.Common.{◌≡◌, ◌<◌, ◌≤◌, ◌∙◌, ◌==◌, zero, suc, sym, ap, refl, subst, arith, ℕ, List, [], ◌∷◌, map}
use Rattle.std.proofs.Common.{length, get_or, slice_get, find, Option, Some, None}
use Rattle.std.specs.List.{position_or_len}
use Rattle.std.specs.Option.{option_and_then, option_map}
use Rattle.std.specs.Fmt.{decimal}
use Rattle.std.proofs.lemmas.List.{length-map}
use Rattle.std.proofs.lemmas.List.Folds.{find_at}
use Rattle.std.proofs.lemmas.Option.{slice_get-map}
use Rattle.cube_model.specs.declared.attr.Attr.{Attr}
use Rattle.cube_model.specs.declared.attr.Attr.TheVariants.{CustomerCity, CustomerNation, CustomerRegion, SupplierCity}
use Rattle.cube_model.specs.declared.attr.Attr.TheVariants.{SupplierNation, SupplierRegion, PartBrand1, PartCategory}
use Rattle.cube_model.specs.declared.attr.Attr.TheVariants.{PartMfgr, DateKey, DateYearmonthnum, DateYear}
use Rattle.cube_model.specs.declared.attr.Attr.TheVariants.{DateYearmonth, DateWeeknuminyear}
use Rattle.cube_model.specs.declared.attr.Axis.{Axis}
use Rattle.cube_model.specs.declared.attr.Axis.TheVariants.{Customer, Supplier, Part, Date}
use Rattle.cube_model.specs.declared.rows.CustomerRow.{CustomerRow}
use Rattle.cube_model.specs.declared.rows.SupplierRow.{SupplierRow}
use Rattle.cube_model.specs.declared.rows.PartRow.{PartRow}
use Rattle.cube_model.specs.declared.rows.DateRow.{DateRow}
use Rattle.cube_model.specs.declared.rows.DimRows.{DimRows}
use Rattle.cube_model.specs.Attributes.{axis_of, attribute_at, of_customer, of_supplier, of_part, of_date}
use Rattle.cube_model.specs.Places.{row_count_of, row_index_of, texts_of}
use Rattle.dictionary.proofs.Items.{position_or_len-map}
use Rattle.dimensions.specs.TextRows.{text_in, column_of, row_of_customer, row_of_supplier, row_of_part, row_of_date}
use Rattle.dimensions.specs.Shapes.{lowers_of, attr_column}
use Rattle.dimensions.specs.Shown.{rows_on}

map_map : {A B C : Type 0} (g : B → C) (f : A → B) (xs : List A) → map g (map f xs) ≡ map (λ x. g (f x)) xs
map_map g f [] = refl
map_map g f (x ∷ xs) = ap (λ l. g (f x) ∷ l) (map_map g f xs)

-- ---- columns

-- an attribute is the column with its number, among those of its dimension
abbrev pub HasColumn : DimRows → Attr → ℕ → Type 0
HasColumn rows attr column = (texts_of rows attr ≡ column_of column (rows_on rows (axis_of attr)))
    × (column < length (lowers_of (axis_of attr)))

pub has_column : (rows : DimRows) (attr : Attr) (column : ℕ) → attr_column attr ≡ Some column
    → HasColumn rows attr column
has_column rows CustomerCity column e = let is : 0 ≡ column = cc in
    subst (HasColumn rows CustomerCity) is (sym (map_map (text_in 0) row_of_customer rows.customers), omega arith)
has_column rows CustomerNation column e = let is : 1 ≡ column = cc in
    subst (HasColumn rows CustomerNation) is (sym (map_map (text_in 1) row_of_customer rows.customers), omega arith)
has_column rows CustomerRegion column e = let is : 2 ≡ column = cc in
    subst (HasColumn rows CustomerRegion) is (sym (map_map (text_in 2) row_of_customer rows.customers), omega arith)
has_column rows SupplierCity column e = let is : 0 ≡ column = cc in
    subst (HasColumn rows SupplierCity) is (sym (map_map (text_in 0) row_of_supplier rows.suppliers), omega arith)
has_column rows SupplierNation column e = let is : 1 ≡ column = cc in
    subst (HasColumn rows SupplierNation) is (sym (map_map (text_in 1) row_of_supplier rows.suppliers), omega arith)
has_column rows SupplierRegion column e = let is : 2 ≡ column = cc in
    subst (HasColumn rows SupplierRegion) is (sym (map_map (text_in 2) row_of_supplier rows.suppliers), omega arith)
has_column rows PartBrand1 column e = let is : 0 ≡ column = cc in
    subst (HasColumn rows PartBrand1) is (sym (map_map (text_in 0) row_of_part rows.parts), omega arith)
has_column rows PartCategory column e = let is : 1 ≡ column = cc in
    subst (HasColumn rows PartCategory) is (sym (map_map (text_in 1) row_of_part rows.parts), omega arith)
has_column rows PartMfgr column e = let is : 2 ≡ column = cc in
    subst (HasColumn rows PartMfgr) is (sym (map_map (text_in 2) row_of_part rows.parts), omega arith)
has_column rows DateKey column e = absurd cc
has_column rows DateYearmonthnum column e = let is : 0 ≡ column = cc in
    subst (HasColumn rows DateYearmonthnum) is (sym (map_map (text_in 0) row_of_date rows.dates), omega arith)
has_column rows DateYear column e = let is : 1 ≡ column = cc in
    subst (HasColumn rows DateYear) is (sym (map_map (text_in 1) row_of_date rows.dates), omega arith)
has_column rows DateYearmonth column e = let is : 2 ≡ column = cc in
    subst (HasColumn rows DateYearmonth) is (sym (map_map (text_in 2) row_of_date rows.dates), omega arith)
has_column rows DateWeeknuminyear column e = let is : 3 ≡ column = cc in
    subst (HasColumn rows DateWeeknuminyear) is (sym (map_map (text_in 3) row_of_date rows.dates), omega arith)

-- the attribute without a column is the day's own
pub has_key : (rows : DimRows) (attr : Attr) → attr_column attr ≡ None
    → texts_of rows attr ≡ map (λ row. decimal row.key) rows.dates
has_key rows DateKey e = refl
has_key rows _ e = absurd cc

-- ---- rows

pub count_on : (rows : DimRows) (axis : Axis) → length (rows_on rows axis) ≡ row_count_of rows axis
count_on rows Customer = length-map rows.customers row_of_customer
count_on rows Supplier = length-map rows.suppliers row_of_supplier
count_on rows Part = length-map rows.parts row_of_part
count_on rows Date = length-map rows.dates row_of_date

pub index_on : (rows : DimRows) (axis : Axis) (key : ℕ)
    → position_or_len (λ other. other == key) (map (λ row. row.key) (rows_on rows axis)) ≡ row_index_of rows axis key
index_on rows Customer key = position_or_len-map (λ other. other == key) (λ row. row.key) (rows_on rows Customer)
    ∙ position_or_len-map (λ row. row.key == key) row_of_customer rows.customers
index_on rows Supplier key = position_or_len-map (λ other. other == key) (λ row. row.key) (rows_on rows Supplier)
    ∙ position_or_len-map (λ row. row.key == key) row_of_supplier rows.suppliers
index_on rows Part key = position_or_len-map (λ other. other == key) (λ row. row.key) (rows_on rows Part)
    ∙ position_or_len-map (λ row. row.key == key) row_of_part rows.parts
index_on rows Date key = position_or_len-map (λ other. other == key) (λ row. row.key) (rows_on rows Date)
    ∙ position_or_len-map (λ row. row.key == key) row_of_date rows.dates

-- ---- attributes

something : {A B : Type 0} (f : A → B) (o : Option A) → option_and_then (λ a. Some (f a)) o ≡ option_map f o
something f None = refl
something f (Some a) = refl

found : {Row : Type 0} (text : Row → List ℕ) (key_of : Row → ℕ) (key : ℕ) (rows : List Row)
    → option_and_then (λ row. Some (text row)) (find (λ row. key_of row == key) rows)
    ≡ slice_get (map text rows) (position_or_len (λ row. key_of row == key) rows)
found text key_of key rows = something text (find (λ row. key_of row == key) rows)
    ∙ ap (option_map text) (find_at (λ row. key_of row == key) rows)
    ∙ sym (slice_get-map text rows (position_or_len (λ row. key_of row == key) rows))

-- an attribute of its own dimension is that of the row with the key
pub on_axis : (rows : DimRows) (attr : Attr) (key : ℕ)
    → attribute_at rows (axis_of attr) key attr ≡ slice_get (texts_of rows attr) (row_index_of rows (axis_of attr) key)
on_axis rows CustomerCity key = found (λ row. row.city) (λ row. row.key) key rows.customers
on_axis rows CustomerNation key = found (λ row. row.nation) (λ row. row.key) key rows.customers
on_axis rows CustomerRegion key = found (λ row. row.region) (λ row. row.key) key rows.customers
on_axis rows SupplierCity key = found (λ row. row.city) (λ row. row.key) key rows.suppliers
on_axis rows SupplierNation key = found (λ row. row.nation) (λ row. row.key) key rows.suppliers
on_axis rows SupplierRegion key = found (λ row. row.region) (λ row. row.key) key rows.suppliers
on_axis rows PartBrand1 key = found (λ row. row.brand1) (λ row. row.key) key rows.parts
on_axis rows PartCategory key = found (λ row. row.category) (λ row. row.key) key rows.parts
on_axis rows PartMfgr key = found (λ row. row.mfgr) (λ row. row.key) key rows.parts
on_axis rows DateKey key = found (λ row. decimal row.key) (λ row. row.key) key rows.dates
on_axis rows DateYearmonthnum key = found (λ row. row.yearmonthnum) (λ row. row.key) key rows.dates
on_axis rows DateYear key = found (λ row. row.year) (λ row. row.key) key rows.dates
on_axis rows DateYearmonth key = found (λ row. row.yearmonth) (λ row. row.key) key rows.dates
on_axis rows DateWeeknuminyear key = found (λ row. row.weeknuminyear) (λ row. row.key) key rows.dates

not_customer : (attr : Attr) (row : CustomerRow) → (axis_of attr ≡ Customer → ⊥) → of_customer attr row ≡ None
not_customer CustomerCity row other = absurd (other refl)
not_customer CustomerNation row other = absurd (other refl)
not_customer CustomerRegion row other = absurd (other refl)
not_customer _ row other = refl

not_supplier : (attr : Attr) (row : SupplierRow) → (axis_of attr ≡ Supplier → ⊥) → of_supplier attr row ≡ None
not_supplier SupplierCity row other = absurd (other refl)
not_supplier SupplierNation row other = absurd (other refl)
not_supplier SupplierRegion row other = absurd (other refl)
not_supplier _ row other = refl

not_part : (attr : Attr) (row : PartRow) → (axis_of attr ≡ Part → ⊥) → of_part attr row ≡ None
not_part PartBrand1 row other = absurd (other refl)
not_part PartCategory row other = absurd (other refl)
not_part PartMfgr row other = absurd (other refl)
not_part _ row other = refl

not_date : (attr : Attr) (row : DateRow) → (axis_of attr ≡ Date → ⊥) → of_date attr row ≡ None
not_date DateKey row other = absurd (other refl)
not_date DateYearmonthnum row other = absurd (other refl)
not_date DateYear row other = absurd (other refl)
not_date DateYearmonth row other = absurd (other refl)
not_date DateWeeknuminyear row other = absurd (other refl)
not_date _ row other = refl

nothing : {A B : Type 0} (f : A → Option B) (o : Option A) → ((a : A) → f a ≡ None) → option_and_then f o ≡ None
nothing f None none = refl
nothing f (Some a) none = none a

-- an attribute of another dimension is none
pub off_axis : (rows : DimRows) (axis : Axis) (attr : Attr) (key : ℕ) → (axis_of attr ≡ axis → ⊥)
    → attribute_at rows axis key attr ≡ None
off_axis rows Customer attr key other =
    nothing (of_customer attr) (find (λ row. row.key == key) rows.customers) (λ row. not_customer attr row other)
off_axis rows Supplier attr key other =
    nothing (of_supplier attr) (find (λ row. row.key == key) rows.suppliers) (λ row. not_supplier attr row other)
off_axis rows Part attr key other =
    nothing (of_part attr) (find (λ row. row.key == key) rows.parts) (λ row. not_part attr row other)
off_axis rows Date attr key other =
    nothing (of_date attr) (find (λ row. row.key == key) rows.dates) (λ row. not_date attr row other)

-- as many texts as rows
pub texts_count : (rows : DimRows) (attr : Attr) → length (texts_of rows attr) ≡ row_count_of rows (axis_of attr)
texts_count rows CustomerCity = length-map rows.customers (λ row. row.city)
texts_count rows CustomerNation = length-map rows.customers (λ row. row.nation)
texts_count rows CustomerRegion = length-map rows.customers (λ row. row.region)
texts_count rows SupplierCity = length-map rows.suppliers (λ row. row.city)
texts_count rows SupplierNation = length-map rows.suppliers (λ row. row.nation)
texts_count rows SupplierRegion = length-map rows.suppliers (λ row. row.region)
texts_count rows PartBrand1 = length-map rows.parts (λ row. row.brand1)
texts_count rows PartCategory = length-map rows.parts (λ row. row.category)
texts_count rows PartMfgr = length-map rows.parts (λ row. row.mfgr)
texts_count rows DateKey = length-map rows.dates (λ row. decimal row.key)
texts_count rows DateYearmonthnum = length-map rows.dates (λ row. row.yearmonthnum)
texts_count rows DateYear = length-map rows.dates (λ row. row.year)
texts_count rows DateYearmonth = length-map rows.dates (λ row. row.yearmonth)
texts_count rows DateWeeknuminyear = length-map rows.dates (λ row. row.weeknuminyear)

pub slice_get-past : {X : Type 0} (xs : List X) (k : ℕ) → length xs ≤ k → slice_get xs k ≡ None
slice_get-past [] k le = refl
slice_get-past (x ∷ xs) zero le = absurd (omega (arith, le))
slice_get-past (x ∷ xs) (suc k) le = slice_get-past xs k (omega (arith, le))

pub slice_get-within : {X : Type 0} (xs : List X) (k : ℕ) (d : X) → k < length xs
    → slice_get xs k ≡ Some (get_or xs k d)
slice_get-within [] k d lt = absurd (omega (arith, lt))
slice_get-within (x ∷ xs) zero d lt = refl
slice_get-within (x ∷ xs) (suc k) d lt = slice_get-within xs k d (omega (arith, lt))
