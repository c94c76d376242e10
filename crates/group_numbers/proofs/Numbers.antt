-- Numbers of groups: their digits, and the keys that they mean.
use Rattle.std.proofs.Common.{◌≡◌, ◌∙◌, sym, ap, refl, subst, true≢false, not, ℕ, zero, suc, ◌+◌, ◌*◌, ◌/◌, ◌%◌, ◌<◌}
use Rattle.std.proofs.Common.{◌≤◌, true, false, cond, Bool, ◌||◌, List, [], ◌∷◌, map, arith, length, get_or, inl, inr}
use Rattle.std.specs.Prelude.{nat_lt}
use Rattle.std.specs.Str.{bytes_eq}
use Rattle.std.specs.List.{list_any, position_or_len}
use Rattle.std.proofs.lemmas.Bool.{cases_lt}
use Rattle.std.proofs.lemmas.Bool.Decides.{nat_tests}
use Rattle.std.proofs.lemmas.Nat.{mul-add-lt, div-mul-add, mod-mul-add, div_below, mod_below, div-add-mod', le-div}
use Rattle.std.proofs.lemmas.Nat.{mul-le}
use Rattle.std.proofs.Math.Nat.{mul_comm, mul-zero}
use Rattle.std.specs.Cmp.{Equal-is, eq_by_cmp_equiv}
use Rattle.std.specs.declared.cmp.Ordering.TheVariants.{Less, Equal}
use Rattle.cube_model.specs.declared.answer.Member.{Member}
use Rattle.cube_model.specs.declared.answer.Member.TheVariants.{All, Text}
use Rattle.cube_model.specs.declared.attr.Attr.{Attr}
use Rattle.cube_model.specs.declared.attr.Axis.{Axis}
use Rattle.cube_model.specs.declared.attr.Axis.TheVariants.{Customer, Supplier, Part, Date}
use Rattle.cube_model.specs.declared.query.Query.{Query}
use Rattle.cube_model.specs.declared.rows.DimRows.{DimRows}
use Rattle.cube_model.specs.declared.rows.LineOrder.{LineOrder}
use Rattle.cube_model.specs.Attributes.{axis_of}
use Rattle.cube_model.specs.Keys.{key_cmp, key_under, member_cmp}
use Rattle.cube_model.proofs.KeyOrder.{member_cmp_total}
use Rattle.cube_model.specs.Places.{attr_members, row_count_of, texts_of, text_at}
use Rattle.group_numbers.specs.Numbers.{digit_count, group_count, digit_member, group_key_at, KeysRise, IsKnownOn}
use Rattle.group_numbers.specs.Parts.{IsKnownFor, is_on, is_same, is_used, rank_at, part_at}
use Rattle.std.specs.Fmt.{decimal}
use Rattle.std.proofs.lemmas.List.{length-map}
use Rattle.std.proofs.lemmas.List.Folds.{list_any_at}
use Rattle.std.proofs.lemmas.List.Sums.{passes_at_first}
use Rattle.cube_model.specs.declared.attr.Attr.TheVariants.{CustomerCity, CustomerNation, CustomerRegion, SupplierCity}
use Rattle.cube_model.specs.declared.attr.Attr.TheVariants.{SupplierNation, SupplierRegion, PartBrand1, PartCategory}
use Rattle.cube_model.specs.declared.attr.Attr.TheVariants.{PartMfgr, DateKey, DateYearmonthnum, DateYear}
use Rattle.cube_model.specs.declared.attr.Attr.TheVariants.{DateYearmonth, DateWeeknuminyear}
use Rattle.dimensions.proofs.CallerLemmas.{bytes_eq-same, bytes_eq-refl, bytes_eq-symm, has-members_of}
use Rattle.group_numbers.proofs.Split.{place_on}
use Rattle.group_numbers.proofs.Members.{members_rise}
use Rattle.group_numbers.proofs.AtPlaces.{attribute_at_place}

pub positive : (a b n : ℕ) → n < a * b → 0 < b
positive a zero n h = absurd (omega (arith, h, mul-zero a))
positive a (suc b) n h = omega arith

first-less : (left right : Member) (ls rs : List Member) → member_cmp left right ≡ Less
    → key_cmp (left ∷ ls) (right ∷ rs) ≡ Less
first-less left right ls rs less = rw less

rest-less : (first : Member) (ls rs : List Member) → key_cmp ls rs ≡ Less → key_cmp (first ∷ ls) (first ∷ rs) ≡ Less
rest-less first ls rs less =
    let tie : member_cmp first first ≡ Equal =
    (Equal-is (member_cmp first first)).0 ((eq_by_cmp_equiv member_cmp_total).refl first) in
    rw tie less

-- a digit below that of ALL is the rank of a member
pub member_at-rank : (dimensions : DimRows) (column : Attr) (digit : ℕ)
    → digit < length (attr_members dimensions column)
    → digit_member dimensions column digit ≡ Text (get_or (attr_members dimensions column) digit [])
member_at-rank dimensions column digit h =
    let test : nat_lt digit (length (attr_members dimensions column)) ≡ true = grind (arith, nat_tests) in
    ap (λ b. cond b (Text (get_or (attr_members dimensions column) digit [])) All) test

pub member_at-all : (dimensions : DimRows) (column : Attr) (digit : ℕ) → length (attr_members dimensions column) ≤ digit
    → digit_member dimensions column digit ≡ All
member_at-all dimensions column digit h =
    let test : nat_lt digit (length (attr_members dimensions column)) ≡ false = grind (arith, nat_tests) in
    ap (λ b. cond b (Text (get_or (attr_members dimensions column) digit [])) All) test

-- what the digits of a column mean rises
pub member_rises : (dimensions : DimRows) (column : Attr) (c d : ℕ) → c < d → d < digit_count dimensions column
    → member_cmp (digit_member dimensions column c) (digit_member dimensions column d) ≡ Less
member_rises dimensions column c d below in_range =
    let members = attr_members dimensions column in
    let low : c < length members = omega (arith, below, in_range) in
    elim (cases_lt d (length members)) [
      | inl text ↦
          (λ i. member_cmp (member_at-rank dimensions column c low i) (member_at-rank dimensions column d text i))
          ∙ members_rise dimensions column c d below text
      | inr all ↦ (λ i. member_cmp (member_at-rank dimensions column c low i) (member_at-all dimensions column d all i))
    ]

-- keys rise with their numbers
pub keys_rise : (dimensions : DimRows) (columns : List Attr) → KeysRise dimensions columns
keys_rise dimensions [] c d below in_range = absurd (omega (arith, below, in_range))
keys_rise dimensions (column ∷ columns) c d below in_range =
    let digits = digit_count dimensions column in
    let count = group_count dimensions columns in
    let some : 0 < count = positive digits count d in_range in
    let whole_c = div-add-mod' c count in
    let whole_d = div-add-mod' d count in
    let ordered : c / count ≤ d / count = le-div (c / count) d count some (omega (arith, whole_c, below)) in
    elim (cases_lt (c / count) (d / count)) [
      | inl less ↦ first-less (digit_member dimensions column (c / count)) (digit_member dimensions column (d / count))
          (group_key_at dimensions columns (c % count)) (group_key_at dimensions columns (d % count))
          (member_rises dimensions column (c / count) (d / count) less (div_below d count digits some in_range))
      | inr most ↦
          let same : c / count ≡ d / count = omega (arith, ordered, most) in
          let high = ap (λ q. q * count) same in
          let lower : c % count < d % count = omega (arith, whole_c, whole_d, high, below) in
          let rest = keys_rise dimensions columns (c % count) (d % count) lower (mod_below d count some) in
          ap (λ q. key_cmp (digit_member dimensions column q ∷ group_key_at dimensions columns (c % count))
          (digit_member dimensions column (d / count) ∷ group_key_at dimensions columns (d % count))) same
          ∙ rest-less (digit_member dimensions column (d / count)) (group_key_at dimensions columns (c % count))
          (group_key_at dimensions columns (d % count)) rest
    ]

-- ---- the rank of a text that is there
pub first_within : {X : Type 0} (p : X → Bool) (xs : List X) → list_any p xs ≡ true → position_or_len p xs < length xs
first_within p [] some = absurd (true≢false (sym some))
first_within p (x ∷ xs) some =
    elim (p x) as (λ b. (b || list_any p xs) ≡ true → cond (not b) (1 + position_or_len p xs) 0 < length (x ∷ xs)) [
      | true ↦ λ e. omega arith
      | false ↦ λ e. omega (arith, first_within p xs e)
    ] some

pub turned : (text : List ℕ) (texts : List (List ℕ))
    → list_any (bytes_eq text) texts ≡ list_any (λ other. bytes_eq other text) texts
turned text [] = refl
turned text (first ∷ texts) = λ i. bytes_eq-symm text first i || turned text texts i

module _ (dimensions : DimRows) where
  pub text_count : (attr : Attr) → length (texts_of dimensions attr) ≡ row_count_of dimensions (axis_of attr)
  text_count CustomerCity = length-map dimensions.customers (λ row. row.city)
  text_count CustomerNation = length-map dimensions.customers (λ row. row.nation)
  text_count CustomerRegion = length-map dimensions.customers (λ row. row.region)
  text_count SupplierCity = length-map dimensions.suppliers (λ row. row.city)
  text_count SupplierNation = length-map dimensions.suppliers (λ row. row.nation)
  text_count SupplierRegion = length-map dimensions.suppliers (λ row. row.region)
  text_count PartBrand1 = length-map dimensions.parts (λ row. row.brand1)
  text_count PartCategory = length-map dimensions.parts (λ row. row.category)
  text_count PartMfgr = length-map dimensions.parts (λ row. row.mfgr)
  text_count DateKey = length-map dimensions.dates (λ row. decimal row.key)
  text_count DateYearmonthnum = length-map dimensions.dates (λ row. row.yearmonthnum)
  text_count DateYear = length-map dimensions.dates (λ row. row.year)
  text_count DateYearmonth = length-map dimensions.dates (λ row. row.yearmonth)
  text_count DateWeeknuminyear = length-map dimensions.dates (λ row. row.weeknuminyear)

  module _ (attr : Attr) (place : ℕ) (within : place < row_count_of dimensions (axis_of attr)) where
    -- the text at a place is a member
    is_member : list_any (λ other. bytes_eq other (text_at dimensions attr place)) (attr_members dimensions attr) ≡ true
    is_member =
        let text = text_at dimensions attr place in
        sym (turned text (attr_members dimensions attr)) ∙ has-members_of text (texts_of dimensions attr)
        ∙ list_any_at (bytes_eq text) (texts_of dimensions attr) place [] (omega (arith, within, text_count attr))
        (bytes_eq-refl text)

    pub rank_within : rank_at dimensions attr place < length (attr_members dimensions attr)
    rank_within = first_within (λ other. bytes_eq other (text_at dimensions attr place)) (attr_members dimensions attr)
        is_member

    pub rank_text : get_or (attr_members dimensions attr) (rank_at dimensions attr place) []
        ≡ text_at dimensions attr place
    rank_text =
        bytes_eq-same _ _
        (passes_at_first (λ other. bytes_eq other (text_at dimensions attr place)) (attr_members dimensions attr) []
        rank_within)

-- ---- the number of a fact row's group
gather : (own : Axis) (x : Axis → ℕ) (a b c d : ℕ)
    → (cond (is_same own Customer) (x Customer) 0 + a)
    + ((cond (is_same own Supplier) (x Supplier) 0 + b)
    + ((cond (is_same own Part) (x Part) 0 + c) + (cond (is_same own Date) (x Date) 0 + d)))
    ≡ x own + (a + (b + (c + d)))
gather Customer x a b c d = omega arith
gather Supplier x a b c d = omega arith
gather Part x a b c d = omega arith
gather Date x a b c d = omega arith

same_axis : (axis : Axis) → is_same axis axis ≡ true
same_axis Customer = refl
same_axis Supplier = refl
same_axis Part = refl
same_axis Date = refl

-- so they are in those of its columns
pub known_in_columns : (dimensions : DimRows) (query : Query) (row : LineOrder) → IsKnownFor dimensions query row
    → (axis : Axis) → list_any (λ column. is_same (axis_of column) axis) query.columns ≡ true
    → IsKnownOn dimensions row axis
known_in_columns dimensions query row known axis is =
    known axis (ap (λ columns. columns || list_any (is_on axis) query.conditions) is)

-- a dimension that is not left unused is used
pub used_else : (query : Query) (axis : Axis) → (is_used query axis ≡ false → ⊥) → is_used query axis ≡ true
used_else query axis none = by (is_used query axis) refl
  where
    by : (b : Bool) → is_used query axis ≡ b → is_used query axis ≡ true
    by true is = is
    by false is = absurd (none is)

pub not_true : (b : Bool) → b ≡ true → b ≡ false → ⊥
not_true b one other = true≢false (sym one ∙ other)

-- nothing is asked of a key in a dimension that a query does not use
pub not_used : {Known : Type 0} (query : Query) (axis : Axis) → is_used query axis ≡ false → is_used query axis ≡ true
    → Known
not_used query axis off on = absurd (true≢false (sym on ∙ off))

or_more : (here after : Bool) → after ≡ true → here || after ≡ true
or_more true after is = refl
or_more false after is = is

module _ (dimensions : DimRows) (row : LineOrder) where
  abbrev pub part_on : List Attr → Axis → ℕ
  part_on columns axis = part_at dimensions axis (place_on dimensions row axis) columns

  -- the number of a fact row's group, dimension by dimension
  abbrev pub number_on : List Attr → ℕ
  number_on columns =
      part_on columns Customer + (part_on columns Supplier + (part_on columns Part + part_on columns Date))

  next_digit : (column : Attr) (columns : List Attr)
      → number_on (column ∷ columns) ≡ rank_at dimensions column (place_on dimensions row (axis_of column)) *
      group_count dimensions columns + number_on columns
  next_digit column columns =
      gather (axis_of column)
      (λ axis. rank_at dimensions column (place_on dimensions row axis) * group_count dimensions columns)
      (part_on columns Customer) (part_on columns Supplier) (part_on columns Part) (part_on columns Date)

  -- a column's own dimension is one of the columns'
  own : (column : Attr) (columns : List Attr)
      → list_any (λ other. is_same (axis_of other) (axis_of column)) (column ∷ columns) ≡ true
  own column columns = ap (λ here. here || list_any (λ other. is_same (axis_of other) (axis_of column)) columns)
      (same_axis (axis_of column))

  -- the number is that of the row's key, where its keys are known in the dimensions of the columns
  pub number_is : (columns : List Attr)
      → ((axis : Axis) → list_any (λ column. is_same (axis_of column) axis) columns ≡ true
      → IsKnownOn dimensions row axis)
      → (number_on columns < group_count dimensions columns)
      × (group_key_at dimensions columns (number_on columns)
      ≡ key_under dimensions row columns (map (λ _. true) columns))
  number_is [] known = (omega arith, refl)
  number_is (column ∷ columns) known =
      let count = group_count dimensions columns in
      let members = attr_members dimensions column in
      let digits = digit_count dimensions column in
      let place = place_on dimensions row (axis_of column) in
      let rank = rank_at dimensions column place in
      let small = rank_within dimensions column place (known (axis_of column) (own column columns)) in
      let rest = number_is columns (λ axis is. known axis (or_more (is_same (axis_of column) axis) _ is)) in
      let here = div-mul-add rank count (number_on columns) rest.0 in
      let others = mod-mul-add rank count (number_on columns) rest.0 in
      let within : number_on (column ∷ columns) < digits * count =
      omega (
        arith,
        next_digit column columns,
        mul-add-lt rank count (number_on columns) digits (omega (arith, small))
            rest.0,
        mul_comm digits count,
      ) in (
        within,
        ap (group_key_at dimensions (column ∷ columns)) (next_digit column columns)
            ∙ (λ i. digit_member dimensions column (here i) ∷ group_key_at dimensions columns (others i))
            ∙ (λ i. member_at-rank dimensions column rank small i ∷ group_key_at dimensions columns (number_on columns))
            ∙ (λ i. Text
            ((rank_text dimensions column place (known (axis_of column) (own column columns))
            ∙ sym (attribute_at_place dimensions column row)) i) ∷ rest.1 i),
      )

-- ---- what one place adds is less than there are groups, where there are any
pub is_same-same : (left right : Axis) → is_same left right ≡ true → left ≡ right
is_same-same Customer Customer e = refl
is_same-same Customer Supplier e = absurd (true≢false (sym e))
is_same-same Customer Part e = absurd (true≢false (sym e))
is_same-same Customer Date e = absurd (true≢false (sym e))
is_same-same Supplier Customer e = absurd (true≢false (sym e))
is_same-same Supplier Supplier e = refl
is_same-same Supplier Part e = absurd (true≢false (sym e))
is_same-same Supplier Date e = absurd (true≢false (sym e))
is_same-same Part Customer e = absurd (true≢false (sym e))
is_same-same Part Supplier e = absurd (true≢false (sym e))
is_same-same Part Part e = refl
is_same-same Part Date e = absurd (true≢false (sym e))
is_same-same Date Customer e = absurd (true≢false (sym e))
is_same-same Date Supplier e = absurd (true≢false (sym e))
is_same-same Date Part e = absurd (true≢false (sym e))
is_same-same Date Date e = refl

pub part_below : (dimensions : DimRows) (axis : Axis) (place : ℕ) → place < row_count_of dimensions axis
    → (columns : List Attr)
    → 0 < group_count dimensions columns → part_at dimensions axis place columns < group_count dimensions columns
part_below dimensions axis place within [] some = omega arith
part_below dimensions axis place within (column ∷ columns) some =
    let members = digit_count dimensions column in
    let count = group_count dimensions columns in
    let rest_some : 0 < count = positive members count 0 some in
    let one_member : 0 < members = omega arith in
    let rest : part_at dimensions axis place columns < count =
    part_below dimensions axis place within columns rest_some in
    elim (is_same (axis_of column) axis) as (λ b. is_same (axis_of column) axis ≡ b
    → cond b (rank_at dimensions column place * count) 0 + part_at dimensions axis place columns < members * count) [
      | true ↦ λ e.
          let there : place < row_count_of dimensions (axis_of column) =
          subst (λ own. place < row_count_of dimensions own) (sym (is_same-same (axis_of column) axis e)) within in
          omega (
            arith,
            mul-add-lt (rank_at dimensions column place) count (part_at dimensions axis place columns)
                members (omega (arith, rank_within dimensions column place there)) rest,
            mul_comm members count,
          )
      | false ↦ λ e. omega (arith, rest, mul-le 1 count members count (omega (arith, one_member)) (omega arith))
    ] refl
