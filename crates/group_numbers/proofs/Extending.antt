-- Dimensions to which rows are added: what was at a place is there.
use Rattle.std.proofs.Common.{◌≡◌, ◌∙◌, sym, ap, refl, subst, ℕ, ◌<◌, List, [], arith, length, get_or, map}
use Rattle.std.specs.Fmt.{decimal}
use Rattle.std.proofs.lemmas.List.{append-nil, get_or_append_left, length-append, length-map, map-append}
use Rattle.cube_model.specs.declared.attr.Attr.{Attr}
use Rattle.cube_model.specs.declared.attr.Attr.TheVariants.{CustomerCity, CustomerNation, CustomerRegion, SupplierCity}
use Rattle.cube_model.specs.declared.attr.Attr.TheVariants.{SupplierNation, SupplierRegion, PartBrand1, PartCategory}
use Rattle.cube_model.specs.declared.attr.Attr.TheVariants.{PartMfgr, DateKey, DateYearmonthnum, DateYear}
use Rattle.cube_model.specs.declared.attr.Attr.TheVariants.{DateYearmonth, DateWeeknuminyear}
use Rattle.cube_model.specs.declared.attr.Axis.{Axis}
use Rattle.cube_model.specs.declared.attr.Axis.TheVariants.{Customer, Supplier, Part, Date}
use Rattle.cube_model.specs.declared.rows.DimRows.{DimRows}
use Rattle.cube_model.specs.Attributes.{axis_of}
use Rattle.cube_model.specs.Places.{row_count_of, text_at}
use Rattle.group_numbers.specs.Beginnings.{Extend, HasAfter}
use Rattle.group_numbers.specs.GroupNumbers.{IsGroupNumbersOf, IsGroupNumbersOver}
use Rattle.group_numbers.specs.declared.group_numbers.GroupNumbers.{GroupNumbers}

-- ---- the same rows
no_more : {Row : Type 0} (rows : List Row) → HasAfter rows rows
no_more rows = ([], sym (append-nil rows))

-- dimensions extend themselves
pub extend_same : (dimensions : DimRows) → Extend dimensions dimensions
extend_same dimensions = record {
  customers = no_more dimensions.customers;
  suppliers = no_more dimensions.suppliers;
  parts = no_more dimensions.parts;
  dates = no_more dimensions.dates;
}

-- the dimensions that group numbers were made over are those that they are over
pub grouping_of_over : (dimensions : DimRows) (grouping : GroupNumbers) → IsGroupNumbersOver dimensions grouping
    → IsGroupNumbersOf dimensions grouping
grouping_of_over dimensions grouping over = subst (λ rows. IsGroupNumbersOf rows grouping) (sym over.those) over.made

-- group numbers are over the dimensions that they were made of
pub grouping_over : (dimensions : DimRows) (grouping : GroupNumbers) → IsGroupNumbersOf dimensions grouping
    → IsGroupNumbersOver dimensions grouping
grouping_over dimensions grouping made = record { beginning = dimensions; made = made; those = refl }

-- ---- rows after them
stays : {Row : Type 0} (text : Row → List ℕ) (rows longer : List Row) → HasAfter rows longer → (place : ℕ)
    → place < length rows
    → get_or (map text longer) place [] ≡ get_or (map text rows) place []
stays text rows longer after place within =
    ap (λ l. get_or (map text l) place []) after.1 ∙ ap (λ l. get_or l place []) (map-append text rows after.0)
    ∙ get_or_append_left (map text rows) (map text after.0) [] place (omega (arith, within, length-map rows text))

-- the text of a row stays the same
pub text_stays : (beginning dimensions : DimRows) → Extend beginning dimensions → (attr : Attr) (place : ℕ)
    → place < row_count_of beginning (axis_of attr) → text_at dimensions attr place ≡ text_at beginning attr place
text_stays beginning dimensions extend CustomerCity place within =
    stays (λ row. row.city) beginning.customers dimensions.customers extend.customers place within
text_stays beginning dimensions extend CustomerNation place within =
    stays (λ row. row.nation) beginning.customers dimensions.customers extend.customers place within
text_stays beginning dimensions extend CustomerRegion place within =
    stays (λ row. row.region) beginning.customers dimensions.customers extend.customers place within
text_stays beginning dimensions extend SupplierCity place within =
    stays (λ row. row.city) beginning.suppliers dimensions.suppliers extend.suppliers place within
text_stays beginning dimensions extend SupplierNation place within =
    stays (λ row. row.nation) beginning.suppliers dimensions.suppliers extend.suppliers place within
text_stays beginning dimensions extend SupplierRegion place within =
    stays (λ row. row.region) beginning.suppliers dimensions.suppliers extend.suppliers place within
text_stays beginning dimensions extend PartBrand1 place within =
    stays (λ row. row.brand1) beginning.parts dimensions.parts extend.parts place within
text_stays beginning dimensions extend PartCategory place within =
    stays (λ row. row.category) beginning.parts dimensions.parts extend.parts place within
text_stays beginning dimensions extend PartMfgr place within =
    stays (λ row. row.mfgr) beginning.parts dimensions.parts extend.parts place within
text_stays beginning dimensions extend DateKey place within =
    stays (λ row. decimal row.key) beginning.dates dimensions.dates extend.dates place within
text_stays beginning dimensions extend DateYearmonthnum place within =
    stays (λ row. row.yearmonthnum) beginning.dates dimensions.dates extend.dates place within
text_stays beginning dimensions extend DateYear place within =
    stays (λ row. row.year) beginning.dates dimensions.dates extend.dates place within
text_stays beginning dimensions extend DateYearmonth place within =
    stays (λ row. row.yearmonth) beginning.dates dimensions.dates extend.dates place within
text_stays beginning dimensions extend DateWeeknuminyear place within =
    stays (λ row. row.weeknuminyear) beginning.dates dimensions.dates extend.dates place within

longer_count : {Row : Type 0} (rows longer : List Row) → HasAfter rows longer → (place : ℕ) → place < length rows
    → place < length longer
longer_count rows longer after place within = omega (arith, within, ap length after.1, length-append rows after.0)

-- a row stays a row
pub row_stays : (beginning dimensions : DimRows) → Extend beginning dimensions → (axis : Axis) (place : ℕ)
    → place < row_count_of beginning axis → place < row_count_of dimensions axis
row_stays beginning dimensions extend Customer place within =
    longer_count beginning.customers dimensions.customers extend.customers place within
row_stays beginning dimensions extend Supplier place within =
    longer_count beginning.suppliers dimensions.suppliers extend.suppliers place within
row_stays beginning dimensions extend Part place within =
    longer_count beginning.parts dimensions.parts extend.parts place within
row_stays beginning dimensions extend Date place within =
    longer_count beginning.dates dimensions.dates extend.dates place within
