-- The rows of a dimension, place by place.
use Rattle.std.proofs.Common.{◌≡◌, ◌∙◌, sym, ap, subst, refl, ℕ, zero, suc, ◌+◌, ◌<◌, ◌^◌, Bool, true, false, List, []}
use Rattle.std.proofs.Common.{◌∷◌, ◌++◌, map, length, take, drop, get_or, arith, Option}
use Rattle.std.specs.Prelude.{nat_lt, ◌&&◌}
use Rattle.std.specs.Fmt.{decimal}
use Rattle.std.specs.List.{list_all}
use Rattle.std.specs.Io.KnownBytes.{Appends}
use Rattle.std.proofs.KnownBytes.{Appends-trans}
use Rattle.std.proofs.lemmas.List.{get_or-map, get_or_default, take_more}
use Rattle.std.proofs.lemmas.List.Folds.{list_all-append}
use Rattle.cube_model.specs.declared.attr.Axis.{Axis}
use Rattle.cube_model.specs.declared.attr.Axis.TheVariants.{Customer, Supplier, Part, Date}
use Rattle.cube_model.specs.declared.rows.CustomerRow.{CustomerRow}
use Rattle.cube_model.specs.declared.rows.SupplierRow.{SupplierRow}
use Rattle.cube_model.specs.declared.rows.PartRow.{PartRow}
use Rattle.cube_model.specs.declared.rows.DateRow.{DateRow}
use Rattle.cube_model.specs.declared.rows.DimRows.{DimRows}
use Rattle.cube_model.specs.Places.{row_count_of}
use Rattle.dimensions.specs.TextRows.{row_of_customer, row_of_supplier, row_of_part, row_of_date}
use Rattle.ssb_reports.specs.Report.{row_text}
use Rattle.ssb_reports.proofs.Rows.{flat_map-around}
use Rattle.table_texts.specs.Places.{row_fields, is_spellable_at, text_before, is_spellable_before}
use Rattle.table_texts.specs.Spellable.{is_field_text, is_spellable_customer, is_spellable_supplier, is_spellable_part}
use Rattle.table_texts.specs.Spellable.{is_spellable_date}
use Rattle.table_texts.specs.Texts.{table_text, customer_fields, supplier_fields, part_fields, date_fields}
use Rattle.table_texts.specs.Texts.{dimension_text}
use Rattle.table_texts.proofs.Written.{up_to_next}

-- ---- rows of one kind
module _ {Row : Type 0} (rows : List Row) (place : ℕ) (none : Row) (within : place < length rows) where
  abbrev here : Row
  here = get_or rows place none

  abbrev is_here : here ≡ get_or rows place here
  is_here = get_or_default rows place _ _ within

  text-next : (fields : Row → List (List ℕ)) (at : List (List ℕ)) → at ≡ fields here
      → table_text fields (take (place + 1) rows) ≡ table_text fields (take place rows) ++ row_text at
  text-next fields at is =
      up_to_next (λ row. row_text (fields row)) rows place here within is_here
      ∙ ap (λ one. table_text fields (take place rows) ++ row_text one) (sym is)

  text-around : (fields : Row → List (List ℕ)) (at : List (List ℕ)) → at ≡ fields here
      → table_text fields rows ≡ table_text fields (take place rows)
      ++ (row_text at ++ table_text fields (drop (place + 1) rows))
  text-around fields at is =
      flat_map-around (λ row. row_text (fields row)) rows place here within is_here
      ∙ ap (λ one. table_text fields (take place rows) ++ (row_text one ++ table_text fields (drop (place + 1) rows)))
      (sym is)

  all-next : (test : Row → Bool)
      → list_all test (take (place + 1) rows) ≡ (test here && list_all test (take place rows))
  all-next test =
      ap (list_all test) (take_more rows place none within)
      ∙ list_all-append test (take place rows) (here ∷ [])
      ∙ swapped (list_all test (take place rows)) (test here)
    where
      swapped : (a b : Bool) → (a && (b && true)) ≡ (b && a)
      swapped true true = refl
      swapped true false = refl
      swapped false true = refl
      swapped false false = refl

twice : {A B : Type 0} (to : A → B) (number : B → ℕ) (items : List A) (place : ℕ) (none : A) → place < length items
    → get_or (map number (map to items)) place 0 ≡ number (to (get_or items place none))
twice to number [] place none within = absurd (omega arith)
twice to number (item ∷ items) zero none within = refl
twice to number (item ∷ items) (suc place) none within = twice to number items place none (omega arith)

abbrev no_customer : CustomerRow
no_customer = record { key = 0; city = []; nation = []; region = [] }

abbrev no_supplier : SupplierRow
no_supplier = record { key = 0; city = []; nation = []; region = [] }

abbrev no_part : PartRow
no_part = record { key = 0; brand1 = []; category = []; mfgr = [] }

abbrev no_date : DateRow
no_date = record { key = 0; year = []; yearmonthnum = []; yearmonth = []; weeknuminyear = [] }

-- ---- the row at a place
module _ (rows : DimRows) (place : ℕ) where
  customer-at : place < length rows.customers
      → row_fields rows Customer place ≡ customer_fields (get_or rows.customers place no_customer)
  customer-at within =
      let key = twice row_of_customer (λ row. row.key) rows.customers place no_customer within in
      let city = get_or-map (λ (row : CustomerRow). row.city) rows.customers place no_customer [] within in
      let nation = get_or-map (λ (row : CustomerRow). row.nation) rows.customers place no_customer [] within in
      let region = get_or-map (λ (row : CustomerRow). row.region) rows.customers place no_customer [] within in
      λ i. decimal (key i) ∷ [] ∷ [] ∷ city i ∷ nation i ∷ region i ∷ [] ∷ [] ∷ []

  supplier-at : place < length rows.suppliers
      → row_fields rows Supplier place ≡ supplier_fields (get_or rows.suppliers place no_supplier)
  supplier-at within =
      let key = twice row_of_supplier (λ row. row.key) rows.suppliers place no_supplier within in
      let city = get_or-map (λ (row : SupplierRow). row.city) rows.suppliers place no_supplier [] within in
      let nation = get_or-map (λ (row : SupplierRow). row.nation) rows.suppliers place no_supplier [] within in
      let region = get_or-map (λ (row : SupplierRow). row.region) rows.suppliers place no_supplier [] within in
      λ i. decimal (key i) ∷ [] ∷ [] ∷ city i ∷ nation i ∷ region i ∷ [] ∷ []

  part-at : place < length rows.parts → row_fields rows Part place ≡ part_fields (get_or rows.parts place no_part)
  part-at within =
      let key = twice row_of_part (λ row. row.key) rows.parts place no_part within in
      let brand1 = get_or-map (λ (row : PartRow). row.brand1) rows.parts place no_part [] within in
      let category = get_or-map (λ (row : PartRow). row.category) rows.parts place no_part [] within in
      let mfgr = get_or-map (λ (row : PartRow). row.mfgr) rows.parts place no_part [] within in
      λ i. decimal (key i) ∷ [] ∷ mfgr i ∷ category i ∷ brand1 i ∷ [] ∷ [] ∷ [] ∷ [] ∷ []

  date-at : place < length rows.dates → row_fields rows Date place ≡ date_fields (get_or rows.dates place no_date)
  date-at within =
      let key = twice row_of_date (λ row. row.key) rows.dates place no_date within in
      let year = get_or-map (λ (row : DateRow). row.year) rows.dates place no_date [] within in
      let yearmonthnum = get_or-map (λ (row : DateRow). row.yearmonthnum) rows.dates place no_date [] within in
      let yearmonth = get_or-map (λ (row : DateRow). row.yearmonth) rows.dates place no_date [] within in
      let weeknuminyear = get_or-map (λ (row : DateRow). row.weeknuminyear) rows.dates place no_date [] within in
      λ i. decimal (key i) ∷ [] ∷ [] ∷ [] ∷ year i ∷ yearmonthnum i ∷ yearmonth i ∷ [] ∷ [] ∷ [] ∷ [] ∷ weeknuminyear i
      ∷ [] ∷ [] ∷ [] ∷ [] ∷ [] ∷ []

-- ---- from place to place
pub before-next : (rows : DimRows) (axis : Axis) (place : ℕ) → place < row_count_of rows axis
    → text_before rows axis (place + 1) ≡ text_before rows axis place ++ row_text (row_fields rows axis place)
before-next rows Customer place within =
    text-next rows.customers place no_customer within customer_fields _ (customer-at rows place within)
before-next rows Supplier place within =
    text-next rows.suppliers place no_supplier within supplier_fields _ (supplier-at rows place within)
before-next rows Part place within = text-next rows.parts place no_part within part_fields _ (part-at rows place within)
before-next rows Date place within = text-next rows.dates place no_date within date_fields _ (date-at rows place within)

-- the lines after that of a place
abbrev pub text_after : DimRows → Axis → ℕ → List ℕ
text_after rows Customer place = table_text customer_fields (drop (place + 1) rows.customers)
text_after rows Supplier place = table_text supplier_fields (drop (place + 1) rows.suppliers)
text_after rows Part place = table_text part_fields (drop (place + 1) rows.parts)
text_after rows Date place = table_text date_fields (drop (place + 1) rows.dates)

pub around : (rows : DimRows) (axis : Axis) (place : ℕ) → place < row_count_of rows axis
    → dimension_text rows axis ≡ text_before rows axis place
    ++ (row_text (row_fields rows axis place) ++ text_after rows axis place)
around rows Customer place within =
    text-around rows.customers place no_customer within customer_fields _ (customer-at rows place within)
around rows Supplier place within =
    text-around rows.suppliers place no_supplier within supplier_fields _ (supplier-at rows place within)
around rows Part place within = text-around rows.parts place no_part within part_fields _ (part-at rows place within)
around rows Date place within = text-around rows.dates place no_date within date_fields _ (date-at rows place within)

-- the line of one row more was written
pub Appends-row : (rows : DimRows) (axis : Axis) (place : ℕ) (old mid new : Option (List ℕ))
    → place < row_count_of rows axis
    → Appends old mid (text_before rows axis place) → Appends mid new (row_text (row_fields rows axis place))
    → Appends old new (text_before rows axis (place + 1))
Appends-row rows axis place old mid new within before here =
    subst (Appends old new) (sym (before-next rows axis place within))
    (Appends-trans old mid new (text_before rows axis place) (row_text (row_fields rows axis place)) before here)

-- ---- rows that lines can spell
module _ (rows : DimRows) (place : ℕ) where
  customer-test : place < length rows.customers → is_spellable_customer (get_or rows.customers place no_customer)
      ≡ is_spellable_at rows Customer place
  customer-test within =
      let key = twice row_of_customer (λ row. row.key) rows.customers place no_customer within in
      let city = get_or-map (λ (row : CustomerRow). row.city) rows.customers place no_customer [] within in
      let nation = get_or-map (λ (row : CustomerRow). row.nation) rows.customers place no_customer [] within in
      let region = get_or-map (λ (row : CustomerRow). row.region) rows.customers place no_customer [] within in
      sym (λ i. nat_lt (key i) (2 ^ 32) && list_all is_field_text (city i ∷ nation i ∷ region i ∷ []))

  supplier-test : place < length rows.suppliers → is_spellable_supplier (get_or rows.suppliers place no_supplier)
      ≡ is_spellable_at rows Supplier place
  supplier-test within =
      let key = twice row_of_supplier (λ row. row.key) rows.suppliers place no_supplier within in
      let city = get_or-map (λ (row : SupplierRow). row.city) rows.suppliers place no_supplier [] within in
      let nation = get_or-map (λ (row : SupplierRow). row.nation) rows.suppliers place no_supplier [] within in
      let region = get_or-map (λ (row : SupplierRow). row.region) rows.suppliers place no_supplier [] within in
      sym (λ i. nat_lt (key i) (2 ^ 32) && list_all is_field_text (city i ∷ nation i ∷ region i ∷ []))

  part-test : place < length rows.parts → is_spellable_part (get_or rows.parts place no_part)
      ≡ is_spellable_at rows Part place
  part-test within =
      let key = twice row_of_part (λ row. row.key) rows.parts place no_part within in
      let brand1 = get_or-map (λ (row : PartRow). row.brand1) rows.parts place no_part [] within in
      let category = get_or-map (λ (row : PartRow). row.category) rows.parts place no_part [] within in
      let mfgr = get_or-map (λ (row : PartRow). row.mfgr) rows.parts place no_part [] within in
      sym (λ i. nat_lt (key i) (2 ^ 32) && list_all is_field_text (brand1 i ∷ category i ∷ mfgr i ∷ []))

  date-test : place < length rows.dates → is_spellable_date (get_or rows.dates place no_date)
      ≡ is_spellable_at rows Date place
  date-test within =
      let key = twice row_of_date (λ row. row.key) rows.dates place no_date within in
      let year = get_or-map (λ (row : DateRow). row.year) rows.dates place no_date [] within in
      let yearmonthnum = get_or-map (λ (row : DateRow). row.yearmonthnum) rows.dates place no_date [] within in
      let yearmonth = get_or-map (λ (row : DateRow). row.yearmonth) rows.dates place no_date [] within in
      let weeknuminyear = get_or-map (λ (row : DateRow). row.weeknuminyear) rows.dates place no_date [] within in
      sym (λ i. nat_lt (key i) (2 ^ 32) && list_all is_field_text
      (yearmonthnum i ∷ year i ∷ yearmonth i ∷ weeknuminyear i ∷ []))

pub spellable-next : (rows : DimRows) (axis : Axis) (place : ℕ) → place < row_count_of rows axis
    → is_spellable_before rows axis (place + 1)
    ≡ (is_spellable_at rows axis place && is_spellable_before rows axis place)
spellable-next rows Customer place within =
    all-next rows.customers place no_customer within is_spellable_customer
    ∙ ap (λ b. b && is_spellable_before rows Customer place) (customer-test rows place within)
spellable-next rows Supplier place within =
    all-next rows.suppliers place no_supplier within is_spellable_supplier
    ∙ ap (λ b. b && is_spellable_before rows Supplier place) (supplier-test rows place within)
spellable-next rows Part place within =
    all-next rows.parts place no_part within is_spellable_part
    ∙ ap (λ b. b && is_spellable_before rows Part place) (part-test rows place within)
spellable-next rows Date place within =
    all-next rows.dates place no_date within is_spellable_date
    ∙ ap (λ b. b && is_spellable_before rows Date place) (date-test rows place within)
