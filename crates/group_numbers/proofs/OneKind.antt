-- Rows of one kind have one text of each attribute of their dimension, and a query does the same at each of them.
use Rattle.std.proofs.Common.{◌≡◌, ◌∙◌, sym, ap, refl, subst, ℕ, ◌+◌, ◌*◌, ◌<◌, ◌&&◌, true, false, cond, List, [], ◌∷◌}
use Rattle.std.proofs.Common.{map, length, get_or, Some, None, arith}
use Rattle.std.specs.Prelude.{slice_get, unwrap_or, Option}
use Rattle.std.specs.List.{list_all, list_any, position_or_len}
use Rattle.std.specs.Str.{bytes_eq}
use Rattle.std.proofs.lemmas.List.{get_or-map, length-map}
use Rattle.std.proofs.lemmas.Option.{slice_get-get_or}
use Rattle.cube_model.specs.declared.attr.Attr.{Attr}
use Rattle.cube_model.specs.declared.attr.Attr.TheVariants.{CustomerCity, CustomerNation, CustomerRegion, SupplierCity}
use Rattle.cube_model.specs.declared.attr.Attr.TheVariants.{SupplierNation, SupplierRegion, PartBrand1, PartCategory}
use Rattle.cube_model.specs.declared.attr.Attr.TheVariants.{PartMfgr, DateKey, DateYearmonthnum, DateYear}
use Rattle.cube_model.specs.declared.attr.Attr.TheVariants.{DateYearmonth, DateWeeknuminyear}
use Rattle.cube_model.specs.declared.attr.Axis.{Axis}
use Rattle.cube_model.specs.declared.query.Cond.{Cond}
use Rattle.cube_model.specs.declared.query.Cond.TheVariants.{OneOf, Between, Quantity, Discount}
use Rattle.cube_model.specs.declared.query.Query.{Query}
use Rattle.cube_model.specs.declared.rows.DimRows.{DimRows}
use Rattle.cube_model.specs.Attributes.{axis_of}
use Rattle.cube_model.specs.Places.{attr_members, row_count_of, text_at, texts_of}
use Rattle.cube_model.specs.Selection.{text_le}
use Rattle.dictionary.specs.Dictionary.{firsts}
use Rattle.dimensions.specs.Coded.{text_next_to}
use Rattle.dimensions.specs.Columns.{code_at}
use Rattle.dimensions.specs.Shapes.{attr_column, lower_of}
use Rattle.dimensions.specs.Shown.{rows_on, AreStorable}
use Rattle.dimensions.specs.TextRows.{column_of}
use Rattle.dimensions.proofs.AttributeLaws.{has_column, texts_count}
use Rattle.dimensions.proofs.CallerLemmas.{good_on}
use Rattle.dimensions.proofs.CodedRules.{determined}
use Rattle.dimensions.proofs.CodedTexts.{IsDetermined}
use Rattle.dimensions.proofs.ColumnLaws.{code_at-text}
use Rattle.group_numbers.specs.Kinds.{HasEachKind, kind_at}
use Rattle.group_numbers.specs.Numbers.{group_count}
use Rattle.group_numbers.specs.Parts.{given_at, holds_at, is_same, part_at, rank_at}
use Rattle.group_numbers.proofs.Numbers.{is_same-same}

-- ---- texts that determine others

-- where lower texts determine texts, one lower text has one text
lifted : (lowers texts : List (List ℕ)) (one other : ℕ) → IsDetermined lowers texts → one < length lowers
    → other < length lowers
    → get_or lowers one [] ≡ get_or lowers other [] → get_or texts one [] ≡ get_or texts other []
lifted lowers texts one other is in_one in_other same =
    ap (λ (l : List (List ℕ)). get_or l one []) is ∙ get_or-map (text_next_to lowers texts) lowers one [] [] in_one
    ∙ ap (text_next_to lowers texts) same
    ∙ sym (get_or-map (text_next_to lowers texts) lowers other [] [] in_other)
    ∙ sym (ap (λ (l : List (List ℕ)). get_or l other []) is)

module _ (dimensions : DimRows) (storable : AreStorable dimensions) where
  linked : (upper lower : Attr) (i j : ℕ) → attr_column upper ≡ Some i → attr_column lower ≡ Some j
      → axis_of lower ≡ axis_of upper
      → lower_of (axis_of upper) i ≡ Some j → IsDetermined (texts_of dimensions lower) (texts_of dimensions upper)
  linked upper lower i j upper_is lower_is axis e =
      let rows = rows_on dimensions (axis_of upper) in
      let up : texts_of dimensions upper ≡ column_of i rows = (has_column dimensions upper i upper_is).0 in
      let low : texts_of dimensions lower ≡ column_of j rows = (has_column dimensions lower j lower_is).0
      ∙ ap (λ a. column_of j (rows_on dimensions a)) axis in
      subst (λ (l : List (List ℕ)). IsDetermined l (texts_of dimensions upper)) (sym low)
      (subst (λ (l : List (List ℕ)). IsDetermined (column_of j rows) l) (sym up)
      (determined (axis_of upper) rows (good_on dimensions storable (axis_of upper)).keep i j e))

  module _ (one other : ℕ) where
    -- rows of one code have one text
    pub own : (attr : Attr) → one < row_count_of dimensions (axis_of attr)
        → other < row_count_of dimensions (axis_of attr)
        → code_at (texts_of dimensions attr) one ≡ code_at (texts_of dimensions attr) other
        → text_at dimensions attr one ≡ text_at dimensions attr other
    own attr in_one in_other same =
        let texts : List (List ℕ) = texts_of dimensions attr in
        let count = texts_count dimensions attr in
        sym (code_at-text texts one (omega (arith, in_one, count)))
        ∙ ap (λ (n : ℕ). get_or (firsts texts) n []) same
        ∙ code_at-text texts other (omega (arith, in_other, count))

    -- the text above
    pub above : (upper lower : Attr) (i j : ℕ) → attr_column upper ≡ Some i → attr_column lower ≡ Some j
        → axis_of lower ≡ axis_of upper
        → lower_of (axis_of upper) i ≡ Some j → one < row_count_of dimensions (axis_of lower)
        → other < row_count_of dimensions (axis_of lower)
        → text_at dimensions lower one ≡ text_at dimensions lower other
        → text_at dimensions upper one ≡ text_at dimensions upper other
    above upper lower i j upper_is lower_is axis e in_one in_other same =
        let count = texts_count dimensions lower in
        lifted (texts_of dimensions lower) (texts_of dimensions upper) one other
        (linked upper lower i j upper_is lower_is axis e)
        (omega (arith, in_one, count)) (omega (arith, in_other, count)) same

    -- rows of one kind have one text of each attribute
    pub one_text : (attr : Attr) → one < row_count_of dimensions (axis_of attr)
        → other < row_count_of dimensions (axis_of attr)
        → kind_at dimensions (axis_of attr) one ≡ kind_at dimensions (axis_of attr) other
        → text_at dimensions attr one ≡ text_at dimensions attr other
    one_text CustomerCity a b same = own CustomerCity a b same
    one_text CustomerNation a b same =
        above CustomerNation CustomerCity 1 0 refl refl refl refl a b (own CustomerCity a b same)
    one_text CustomerRegion a b same = above CustomerRegion CustomerNation 2 1 refl refl refl refl a b
        (above CustomerNation CustomerCity 1 0 refl refl refl refl a b (own CustomerCity a b same))
    one_text SupplierCity a b same = own SupplierCity a b same
    one_text SupplierNation a b same =
        above SupplierNation SupplierCity 1 0 refl refl refl refl a b (own SupplierCity a b same)
    one_text SupplierRegion a b same = above SupplierRegion SupplierNation 2 1 refl refl refl refl a b
        (above SupplierNation SupplierCity 1 0 refl refl refl refl a b (own SupplierCity a b same))
    one_text PartBrand1 a b same = own PartBrand1 a b same
    one_text PartCategory a b same = above PartCategory PartBrand1 1 0 refl refl refl refl a b (own PartBrand1 a b same)
    one_text PartMfgr a b same = above PartMfgr PartCategory 2 1 refl refl refl refl a b
        (above PartCategory PartBrand1 1 0 refl refl refl refl a b (own PartBrand1 a b same))
    one_text DateKey a b same = ap (text_at dimensions DateKey) same
    one_text DateYearmonthnum a b same = ap (text_at dimensions DateYearmonthnum) same
    one_text DateYear a b same = ap (text_at dimensions DateYear) same
    one_text DateYearmonth a b same = ap (text_at dimensions DateYearmonth) same
    one_text DateWeeknuminyear a b same = ap (text_at dimensions DateWeeknuminyear) same

    -- ---- a query does the same at each of them
    module _ (axis : Axis) (in_one : one < row_count_of dimensions axis)
        (in_other : other < row_count_of dimensions axis)
        (same : kind_at dimensions axis one ≡ kind_at dimensions axis other) where
      text_on : (attr : Attr) → axis_of attr ≡ axis → text_at dimensions attr one ≡ text_at dimensions attr other
      text_on attr is =
          one_text attr (subst (λ a. one < row_count_of dimensions a) (sym is) in_one)
          (subst (λ a. other < row_count_of dimensions a) (sym is) in_other)
          (subst (λ a. kind_at dimensions a one ≡ kind_at dimensions a other) (sym is) same)

      one_answer : (condition : Cond)
          → holds_at dimensions axis one condition ≡ holds_at dimensions axis other condition
      one_answer (OneOf attr texts) =
          let among = λ (own : List ℕ). list_any (λ text. bytes_eq text own) texts in
          elim (is_same (axis_of attr) axis) as (λ b. is_same (axis_of attr) axis ≡ b
          → cond b (among (text_at dimensions attr one)) true ≡ cond b (among (text_at dimensions attr other)) true) [
            | true ↦ λ e. ap among (text_on attr (is_same-same (axis_of attr) axis e))
            | false ↦ λ e. refl
          ] refl
      one_answer (Between attr low high) =
          let between = λ (own : List ℕ). text_le low own && text_le own high in
          elim (is_same (axis_of attr) axis) as (λ b. is_same (axis_of attr) axis ≡ b
          → cond b (between (text_at dimensions attr one)) true
          ≡ cond b (between (text_at dimensions attr other)) true) [
            | true ↦ λ e. ap between (text_on attr (is_same-same (axis_of attr) axis e))
            | false ↦ λ e. refl
          ] refl
      one_answer (Quantity low high) = refl
      one_answer (Discount low high) = refl

      one_choice : (conditions : List Cond) → list_all (holds_at dimensions axis one) conditions
          ≡ list_all (holds_at dimensions axis other) conditions
      one_choice [] = refl
      one_choice (condition ∷ conditions) = λ i. one_answer condition i && one_choice conditions i

      one_part : (columns : List Attr) → part_at dimensions axis one columns ≡ part_at dimensions axis other columns
      one_part [] = refl
      one_part (column ∷ columns) =
          let count = group_count dimensions columns in
          let rank = λ (own : List ℕ). position_or_len (λ text. bytes_eq text own) (attr_members dimensions column) in
          elim (is_same (axis_of column) axis) as (λ b. is_same (axis_of column) axis ≡ b
          → cond b (rank_at dimensions column one * count) 0 + part_at dimensions axis one columns
          ≡ cond b (rank_at dimensions column other * count) 0 + part_at dimensions axis other columns) [
            | true ↦ λ e.
                (λ i. rank (text_on column (is_same-same (axis_of column) axis e) i) * count + one_part columns i)
            | false ↦ λ e. (λ i. 0 + one_part columns i)
          ] refl

      pub one_given : (query : Query) → given_at dimensions query axis one ≡ given_at dimensions query axis other
      one_given query = λ i. cond (one_choice query.conditions i) (Some (one_part query.columns i)) None

  -- what rows of each kind give is what each row does
  pub kinds_give : (query : Query) (axis : Axis) (places : List ℕ) (parts : List (Option ℕ))
      → HasEachKind dimensions axis places
      → parts ≡ map (given_at dimensions query axis) places
      → (place : ℕ) → place < row_count_of dimensions axis
      → unwrap_or (slice_get parts (kind_at dimensions axis place)) None ≡ given_at dimensions query axis place
  kinds_give query axis places parts hold are place within =
      let given = given_at dimensions query axis in
      let kind = kind_at dimensions axis place in
      let low : kind < length places = hold.all place within in
      ap (λ (l : List (Option ℕ)). unwrap_or (slice_get l kind) None) are
      ∙ ap (λ found. unwrap_or found None)
      (slice_get-get_or (map given places) kind None (omega (arith, low, length-map places given)))
      ∙ get_or-map given places kind 0 None low
      ∙ one_given (get_or places kind 0) place axis (hold.within kind low) within (hold.own kind low) query
