-- Lemmas of `laws`, by subject.
use Rattle.std.proofs.Common.{◌≡◌, ap, refl, ℕ, ◌<◌, ◌≤◌, Some, arith, ◌∙◌, sym, ◌+◌, ◌*◌, true, false, List, [], ◌∷◌}
use Rattle.std.proofs.Common.{map, Option, None, Bool}
use Rattle.cube_model.specs.declared.attr.Attr.{Attr}
use Rattle.cube_model.specs.declared.attr.Attr.TheVariants.{CustomerCity, CustomerNation, CustomerRegion, SupplierCity}
use Rattle.cube_model.specs.declared.attr.Attr.TheVariants.{SupplierNation, SupplierRegion, PartBrand1, PartCategory}
use Rattle.cube_model.specs.declared.attr.Attr.TheVariants.{PartMfgr, DateKey, DateYearmonthnum, DateYear}
use Rattle.cube_model.specs.declared.attr.Attr.TheVariants.{DateYearmonth, DateWeeknuminyear}
use Rattle.cube_model.specs.declared.rows.DimRows.{DimRows}
use Rattle.cube_model.specs.Attributes.{axis_of, attribute_of, key_on}
use Rattle.cube_model.specs.Places.{row_count_of, text_at, texts_of, row_index_of}
use Rattle.dimensions.specs.Columns.{code_at}
use Rattle.dimensions.specs.Shapes.{attr_column, lower_of}
use Rattle.lattice.specs.declared.level.Level.{Level}
use Rattle.lattice.specs.declared.level.Level.TheVariants.{Lowest, Middle, Highest}
use Rattle.lattice.specs.Determined.{highest_level, Decides, Determines, Serves}
use Rattle.lattice.specs.Levels.{height, level_attribute}
use Rattle.cuboid_upkeep.specs.Codes.{member_code, IsMode, level_column, mode_code}
use Rattle.std.specs.Prelude.{◌&&◌}
use Rattle.std.specs.List.{AllByRecursion, list_any}
use Rattle.std.specs.Str.{bytes_eq}
use Rattle.cube_model.specs.declared.answer.Member.TheVariants.{Text}
use Rattle.cube_model.specs.declared.attr.Axis.{Axis}
use Rattle.cube_model.specs.declared.attr.Axis.TheVariants.{Customer, Supplier, Part, Date}
use Rattle.cube_model.specs.declared.query.Cond.{Cond}
use Rattle.cube_model.specs.declared.query.Cond.TheVariants.{OneOf, Between, Quantity, Discount}
use Rattle.cube_model.specs.declared.query.Query.{Query}
use Rattle.cube_model.specs.declared.rows.LineOrder.{LineOrder}
use Rattle.cube_model.specs.Keys.{key_under}
use Rattle.cube_model.specs.Selection.{holds_of, is_selected, text_le}
use Rattle.dimensions.specs.Shown.{rows_on, AreStorable}
use Rattle.dimensions.proofs.AttributeLaws.{count_on}
use Rattle.group_numbers.specs.Numbers.{IsGroupNumber}
use Rattle.group_numbers.proofs.AtPlaces.{attribute_at_place}
use Rattle.lattice.specs.declared.view.View.{View}
use Rattle.lattice.specs.Views.{level_on}
use Rattle.cuboid_cells.specs.declared.key.Key.{Key}
use Rattle.cuboid_cells.specs.Cells.{key_as_number}
use Rattle.cuboid_upkeep.specs.Grouping.{HasMembers, code_on, key_of}
use Rattle.cuboid_upkeep.specs.Lawful.{OneKeyOneGroup}
use Rattle.cuboid_upkeep.proofs.Coded.{code_below, few_days, in_level_column, in_no_column}
use Rattle.cuboid_upkeep.proofs.Added.{both_represent}
use Rattle.cuboid_upkeep.proofs.Existing.{cells_of, no_fewer, they_represent}
use Rattle.cuboid_upkeep.proofs.InRange.{in_range_fit}
use Rattle.cuboid_upkeep.proofs.OneList.{the_one}
use Rattle.cuboid_upkeep.specs.Lawful.{CellsAreTheOne, MergesRepresentBoth, MoreRowsHaveNoFewerCells, RowsHaveCells}
use Rattle.cuboid_upkeep.specs.Lawful.{RowsInRangeFit}
use Rattle.group_numbers.proofs.OneKind as kinds
use Rattle.lattice.specs.declared.level.Level.TheVariants as level
use Rattle.dimensions.proofs.CallerLemmas.{good_on}

-- ==== Where two rows of a dimension have one member at a level, they have one text of each attribute that the level
-- determines.

module _ (dimensions : DimRows) (storable : AreStorable dimensions) (one other : ℕ) where
  -- rows of one code have one text
  own : (attr : Attr) → one < row_count_of dimensions (axis_of attr) → other < row_count_of dimensions (axis_of attr)
      → code_at (texts_of dimensions attr) one ≡ code_at (texts_of dimensions attr) other
      → text_at dimensions attr one ≡ text_at dimensions attr other
  own = kinds.own dimensions storable one other

  -- the text above
  above : (upper lower : Attr) (i j : ℕ) → attr_column upper ≡ Some i → attr_column lower ≡ Some j
      → axis_of lower ≡ axis_of upper
      → lower_of (axis_of upper) i ≡ Some j → one < row_count_of dimensions (axis_of lower)
      → other < row_count_of dimensions (axis_of lower)
      → text_at dimensions lower one ≡ text_at dimensions lower other
      → text_at dimensions upper one ≡ text_at dimensions upper other
  above = kinds.above dimensions storable one other

  pub tells : (attr : Attr) (level : Level) → height level ≤ height (highest_level attr)
      → one < row_count_of dimensions (axis_of attr) → other < row_count_of dimensions (axis_of attr)
      → member_code dimensions (axis_of attr) level one ≡ member_code dimensions (axis_of attr) level other
      → text_at dimensions attr one ≡ text_at dimensions attr other
  tells CustomerCity Lowest low a b same = own CustomerCity a b same
  tells CustomerNation Lowest low a b same =
      above CustomerNation CustomerCity 1 0 refl refl refl refl a b (own CustomerCity a b same)
  tells CustomerNation Middle low a b same = own CustomerNation a b same
  tells CustomerRegion Lowest low a b same =
      above CustomerRegion CustomerNation 2 1 refl refl refl refl a b
      (above CustomerNation CustomerCity 1 0 refl refl refl refl a b (own CustomerCity a b same))
  tells CustomerRegion Middle low a b same =
      above CustomerRegion CustomerNation 2 1 refl refl refl refl a b (own CustomerNation a b same)
  tells CustomerRegion Highest low a b same = own CustomerRegion a b same
  tells SupplierCity Lowest low a b same = own SupplierCity a b same
  tells SupplierNation Lowest low a b same =
      above SupplierNation SupplierCity 1 0 refl refl refl refl a b (own SupplierCity a b same)
  tells SupplierNation Middle low a b same = own SupplierNation a b same
  tells SupplierRegion Lowest low a b same =
      above SupplierRegion SupplierNation 2 1 refl refl refl refl a b
      (above SupplierNation SupplierCity 1 0 refl refl refl refl a b (own SupplierCity a b same))
  tells SupplierRegion Middle low a b same =
      above SupplierRegion SupplierNation 2 1 refl refl refl refl a b (own SupplierNation a b same)
  tells SupplierRegion Highest low a b same = own SupplierRegion a b same
  tells PartBrand1 Lowest low a b same = own PartBrand1 a b same
  tells PartCategory Lowest low a b same =
      above PartCategory PartBrand1 1 0 refl refl refl refl a b (own PartBrand1 a b same)
  tells PartCategory Middle low a b same = own PartCategory a b same
  tells PartMfgr Lowest low a b same =
      above PartMfgr PartCategory 2 1 refl refl refl refl a b
      (above PartCategory PartBrand1 1 0 refl refl refl refl a b (own PartBrand1 a b same))
  tells PartMfgr Middle low a b same =
      above PartMfgr PartCategory 2 1 refl refl refl refl a b (own PartCategory a b same)
  tells PartMfgr Highest low a b same = own PartMfgr a b same
  tells DateKey Lowest low a b same = ap (text_at dimensions DateKey) same
  tells DateWeeknuminyear Lowest low a b same = ap (text_at dimensions DateWeeknuminyear) same
  tells DateYearmonthnum Lowest low a b same = ap (text_at dimensions DateYearmonthnum) same
  tells DateYearmonthnum Middle low a b same = own DateYearmonthnum a b same
  tells DateYearmonth Lowest low a b same = ap (text_at dimensions DateYearmonth) same
  tells DateYearmonth Middle low a b same =
      above DateYearmonth DateYearmonthnum 2 0 refl refl refl refl a b (own DateYearmonthnum a b same)
  tells DateYear Lowest low a b same = ap (text_at dimensions DateYear) same
  tells DateYear Middle low a b same =
      above DateYear DateYearmonthnum 1 0 refl refl refl refl a b (own DateYearmonthnum a b same)
  tells DateYear Highest low a b same = own DateYear a b same
  tells _ _ low a b same = absurd (omega (arith, low))

-- ==== Fact rows of one key in a view are in one group of each query that the view serves.

below_all : (attr : Attr) → height (highest_level attr) ≤ 2
below_all CustomerCity = omega arith
below_all CustomerNation = omega arith
below_all CustomerRegion = omega arith
below_all SupplierCity = omega arith
below_all SupplierNation = omega arith
below_all SupplierRegion = omega arith
below_all PartBrand1 = omega arith
below_all PartCategory = omega arith
below_all PartMfgr = omega arith
below_all DateKey = omega arith
below_all DateYearmonthnum = omega arith
below_all DateYear = omega arith
below_all DateYearmonth = omega arith
below_all DateWeeknuminyear = omega arith

-- what is determined is grouped
grouped : (view : View) (attr : Attr) → Determines view attr → level_on (axis_of attr) view ≡ level.All → ⊥
grouped view attr low is = absurd (omega (arith, low, below_all attr, ap height is))

module _ (dimensions : DimRows) (storable : AreStorable dimensions) (modes : List (List ℕ)) (view : View)
    (row other : LineOrder)
    (members : HasMembers dimensions modes view row) (others : HasMembers dimensions modes view other)
    (same : key_of dimensions modes view row ≡ key_of dimensions modes view other) where
  one_code : (axis : Axis) → code_on dimensions axis (level_on axis view) row
      ≡ code_on dimensions axis (level_on axis view) other
  one_code Customer = ap (λ (k : Key). k.customer) same
  one_code Supplier = ap (λ (k : Key). k.supplier) same
  one_code Part = ap (λ (k : Key). k.part) same
  one_code Date = ap (λ (k : Key). k.date) same

  one_text : (attr : Attr) → Determines view attr
      → attribute_of dimensions attr row ≡ attribute_of dimensions attr other
  one_text attr low =
      let axis = axis_of attr in
      let apart = grouped view attr low in
      attribute_at_place dimensions attr row
      ∙ tells dimensions storable (row_index_of dimensions axis (key_on axis row))
      (row_index_of dimensions axis (key_on axis other)) attr (level_on axis view) low
      (members.axes axis apart) (others.axes axis apart) (one_code axis)
      ∙ sym (attribute_at_place dimensions attr other)

  one_key : (columns : List Attr) → AllByRecursion (Determines view) columns
      → key_under dimensions row columns (map (λ _. true) columns)
      ≡ key_under dimensions other columns (map (λ _. true) columns)
  one_key [] all = refl
  one_key (column ∷ columns) all = λ i. Text (one_text column all.0 i) ∷ one_key columns all.1 i

  one_answer : (condition : Cond) → Decides view condition
      → holds_of dimensions condition row ≡ holds_of dimensions condition other
  one_answer (OneOf attr texts) low =
      ap (λ (own : List ℕ). list_any (λ text. bytes_eq text own) texts) (one_text attr low)
  one_answer (Between attr low high) is = ap (λ (own : List ℕ). text_le low own && text_le own high) (one_text attr is)
  one_answer (Quantity low high) is = absurd is
  one_answer (Discount low high) is = absurd is

  one_choice : (conditions : List Cond) → AllByRecursion (Decides view) conditions
      → is_selected dimensions conditions row ≡ is_selected dimensions conditions other
  one_choice [] all = refl
  one_choice (condition ∷ conditions) all = λ i. one_answer condition all.0 i && one_choice conditions all.1 i

  one_number : (query : Query) → Serves view query → (number : Option ℕ) → IsGroupNumber dimensions query row number
      → IsGroupNumber dimensions query other number
  one_number query serves None is = sym (one_choice query.conditions serves.conditions) ∙ is
  one_number query serves (Some number) is = (
    sym (one_choice query.conditions serves.conditions) ∙ is.0,
    is.1,
    is.2 ∙ one_key query.columns serves.columns,
  )

-- ---- a number is that of one key
module _ (dimensions : DimRows) (storable : AreStorable dimensions) where
  -- codes fit their fields
  code_fits : (axis : Axis) (grouped : Level) (place : ℕ)
      → ((grouped ≡ level.All → ⊥) → place < row_count_of dimensions axis)
      → member_code dimensions axis grouped place < 65536
  code_fits axis grouped place within =
      let rows = rows_on dimensions axis in
      let good = good_on dimensions storable axis in
      (elim (level_column (level_attribute axis grouped)) as (λ o. level_column (level_attribute axis grouped) ≡ o
      → member_code dimensions axis grouped place < 65536) [
        | None ↦ λ e. day_fits axis grouped place within e
        | Some column ↦ λ e.
            (let represent = in_level_column dimensions place column axis grouped e in
            let there =
            within (λ is. absurd
            (cc (e, ap (λ (l : Level). level_column (level_attribute axis l)) is, no_column axis))) in
            let low = code_below axis rows good column place (omega (arith, there, count_on dimensions axis))
            represent.0 in
            omega (arith, low, represent.1))
      ]) refl
    where
      no_column : (axis : Axis) → level_column (level_attribute axis level.All) ≡ None
      no_column Customer = refl
      no_column Supplier = refl
      no_column Part = refl
      no_column Date = refl

      every : (axis : Axis) (place : ℕ) → member_code dimensions axis level.All place < 65536
      every Customer place = omega arith
      every Supplier place = omega arith
      every Part place = omega arith
      every Date place = omega arith

      day : (axis : Axis) (grouped : Level) (place : ℕ) → place < row_count_of dimensions axis
          → level_column (level_attribute axis grouped) ≡ None → (grouped ≡ level.All → ⊥)
          → member_code dimensions axis grouped place < 65536
      day axis grouped place there e apart =
          let is = in_no_column dimensions place axis grouped e apart in
          let few = few_days axis (rows_on dimensions axis) (good_on dimensions storable axis) is.0 in
          omega (arith, there, few, count_on dimensions axis, is.1)

      day_fits : (axis : Axis) (grouped : Level) (place : ℕ)
          → ((grouped ≡ level.All → ⊥) → place < row_count_of dimensions axis)
          → level_column (level_attribute axis grouped) ≡ None
          → member_code dimensions axis grouped place < 65536
      day_fits axis level.All place within e = every axis place
      day_fits axis level.Lowest place within e =
          day axis level.Lowest place (within (λ is. absurd (cc is))) e (λ is. absurd (cc is))
      day_fits axis level.Middle place within e =
          day axis level.Middle place (within (λ is. absurd (cc is))) e (λ is. absurd (cc is))
      day_fits axis level.Highest place within e =
          day axis level.Highest place (within (λ is. absurd (cc is))) e (λ is. absurd (cc is))

  fits_on : (modes : List (List ℕ)) (view : View) (row : LineOrder) → HasMembers dimensions modes view row
      → (axis : Axis) → code_on dimensions axis (level_on axis view) row < 65536
  fits_on modes view row members axis =
      code_fits axis (level_on axis view) (row_index_of dimensions axis (key_on axis row)) (members.axes axis)

-- the code of a ship mode fits its field
mode_fits : (grouped : Bool) (modes : List (List ℕ)) (text : List ℕ) → (grouped ≡ true → IsMode modes text)
    → mode_code grouped modes text < 65536
mode_fits false modes text mode = omega arith
mode_fits true modes text mode = let below = (mode refl).below in omega (arith, below)

-- digits to the base 65,536
last_digit : (a b x y : ℕ) → x < 65536 → y < 65536 → a * 65536 + x ≡ b * 65536 + y → (a ≡ b) × (x ≡ y)
last_digit a b x y small few same = (omega (arith, small, few, same), omega (arith, small, few, same))

one_key_of : (one other : Key) → one.customer < 65536 → one.supplier < 65536 → one.part < 65536 → one.date < 65536
    → one.ship_mode < 65536
    → other.customer < 65536 → other.supplier < 65536 → other.part < 65536 → other.date < 65536
    → other.ship_mode < 65536
    → key_as_number one ≡ key_as_number other → one ≡ other
one_key_of one other a b c d e p q r s t same =
    let fifth = last_digit (((one.customer * 65536 + one.supplier) * 65536 + one.part) * 65536 + one.date)
    (((other.customer * 65536 + other.supplier) * 65536 + other.part) * 65536 + other.date) one.ship_mode
    other.ship_mode e t same in
    let fourth =
    last_digit ((one.customer * 65536 + one.supplier) * 65536 + one.part)
    ((other.customer * 65536 + other.supplier) * 65536 + other.part) one.date other.date d s fifth.0 in
    let third = last_digit (one.customer * 65536 + one.supplier) (other.customer * 65536 + other.supplier) one.part
    other.part c r fourth.0 in
    let second = last_digit one.customer other.customer one.supplier other.supplier b q third.0 in
    λ i. record {
      customer = second.0 i;
      supplier = second.1 i;
      part = third.1 i;
      date = fourth.1 i;
      ship_mode = fifth.1 i;
    }

pub one_group : OneKeyOneGroup
one_group dimensions storable modes view query row other number serves members others same is =
    let fits = fits_on dimensions storable modes view row members in
    let also = fits_on dimensions storable modes view other others in
    let key : key_of dimensions modes view row ≡ key_of dimensions modes view other =
    one_key_of (key_of dimensions modes view row) (key_of dimensions modes view other) (fits Customer) (fits Supplier)
    (fits Part) (fits Date) (mode_fits view.ship_mode modes row.shipmode members.ship_mode)
    (also Customer) (also Supplier) (also Part) (also Date)
    (mode_fits view.ship_mode modes other.shipmode others.ship_mode) same in
    one_number dimensions storable modes view row other members others key query serves number is

-- ==== The laws of cells, as callers cite them.

pub merges_represent_both : MergesRepresentBoth
merges_represent_both = both_represent

pub cells_are_the_one : CellsAreTheOne
cells_are_the_one = the_one

pub rows_in_range_fit : RowsInRangeFit
rows_in_range_fit = in_range_fit

pub rows_have_cells : RowsHaveCells
rows_have_cells dimensions modes view rows known =
    (cells_of dimensions modes view rows, they_represent dimensions modes view rows known)

pub more_rows_have_no_fewer_cells : MoreRowsHaveNoFewerCells
more_rows_have_no_fewer_cells = no_fewer
